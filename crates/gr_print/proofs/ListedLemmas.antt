-- Names that a text lists, taken one after the other.
use Rattle.std.proofs.Common.{◌≡◌, ℕ, ◌+◌, ◌<◌, ◌≤◌, ◌==◌, not, List, [], ◌∷◌, ◌++◌, length, map, filter, drop, get_or, Ok, Err, sym, ap, subst, ◌∙◌}
use Rattle.std.proofs.lemmas.List.{drop_all, drop_more}
use Rattle.gr_base.specs.Failure.{Answers}
use Rattle.gr_base.specs.declared.failure.Failure.{Failure}
use Rattle.gr_base.specs.declared.fault.Fault.{Fault}
use Rattle.gr_base.specs.declared.numbers.TableNo.{TableNo}
use Rattle.gr_print.specs.Columns.{trimmed}
use Rattle.gr_print.specs.Inside.Named.{Adds}
use Rattle.gr_print.specs.declared.out_column.OutColumn.{OutColumn}
use Rattle.gr_print.proofs.NamedLemmas.{Adds-none, Adds-stops, filter-first, total, total-then}
use Rattle.gr_schema.specs.Schema.{SchemaDef}

-- the names of pieces of a text, of which empty ones are dropped
abbrev pub given : List (List ℕ) → List (List ℕ)
given names = filter (λ item. not (length item == 0)) names

-- the first of the pieces that are left
pub given-first : (parts : List (List ℕ)) (n : ℕ) (name : List ℕ) → n < length parts → name ≡ get_or parts n name
    → given (map trimmed (drop n parts)) ≡ given (trimmed name ∷ []) ++ given (map trimmed (drop (n + 1) parts))
given-first parts n name here is =
    ap (λ xs. given (map trimmed xs)) (drop_more parts n name here ∙ ap (λ x. x ∷ drop (n + 1) parts) (sym is))
    ∙ filter-first (λ item. not (length item == 0)) (trimmed name) (map trimmed (drop (n + 1) parts))

module _ (schema : SchemaDef) (table : TableNo) (all : List (List ℕ)) (parts : List (List ℕ)) (n : ℕ) (before : List OutColumn)
    (taken : total schema table [] all ≡ total schema table before (given (map trimmed (drop n parts)))) where
  -- a name that is refused
  pub taken-stops : (name : List ℕ) (why : Failure Fault) → n < length parts → name ≡ get_or parts n name → Adds schema table before (given (trimmed name ∷ [])) (Err why)
      → Adds schema table [] all (Err why)
  taken-stops name why here is stops =
      subst (λ meant. Answers (Err why) meant) (sym (taken ∙ ap (total schema table before) (given-first parts n name here is)))
      (Adds-stops schema table before (given (trimmed name ∷ [])) (given (map trimmed (drop (n + 1) parts))) why stops)

  -- a name that is taken
  pub taken-more : (name : List ℕ) (mid : List OutColumn) → n < length parts → name ≡ get_or parts n name → Adds schema table before (given (trimmed name ∷ [])) (Ok mid)
      → total schema table [] all ≡ total schema table mid (given (map trimmed (drop (n + 1) parts)))
  taken-more name mid here is adds =
      taken ∙ ap (total schema table before) (given-first parts n name here is)
      ∙ total-then schema table before mid (given (trimmed name ∷ [])) (given (map trimmed (drop (n + 1) parts))) adds

  -- no name is left
  pub taken-all : length parts ≤ n → Adds schema table [] all (Ok before)
  taken-all end =
      subst (λ meant. Answers (Ok before) meant) (sym (taken ∙ ap (λ xs. total schema table before (given (map trimmed xs))) (drop_all n parts end))) (Adds-none schema table before)
