-- Names that are taken one after the other.
use Rattle.std.proofs.Common.{◌≡◌, ℕ, ◌+◌, ◌<◌, ◌==◌, drop, get_or, not, cond, List, [], ◌∷◌, ◌++◌, length, map, filter, Option, Some, None, Result, Ok, Err, refl, sym, ap, ◌∙◌, arith, ne_eqb}
use Rattle.std.proofs.lemmas.List.{drop_more}
use Rattle.gr_base.specs.Failure.{result_map, result_then}
use Rattle.gr_base.specs.declared.fault.Fault.{Fault}
use Rattle.gr_schema.specs.Schema.{SchemaDef}
use Rattle.gr_schema.specs.declared.definition.TableDef.{TableDef}
use Rattle.gr_rows.specs.Names.{name_taken, names_after, trimmed}

-- names of which empty ones are dropped
abbrev pub given : List (List ℕ) → List (Option (List ℕ))
given names = map Some (filter (λ name. not (length name == 0)) names)

given_cons : (c : ℕ) (cs : List ℕ) (others : List (List ℕ)) → given ((c ∷ cs) ∷ others) ≡ Some (c ∷ cs) ∷ given others
given_cons c cs others =
    ap (λ b. map Some (cond (not b) ((c ∷ cs) ∷ filter (λ name. not (length name == 0)) others) (filter (λ name. not (length name == 0)) others))) (ne_eqb (length (c ∷ cs)) 0 (λ none. omega arith))

module _ (schema : SchemaDef) (home : TableDef) where
  abbrev after : List (List ℕ) → List (Option (List ℕ)) → Result (List (List ℕ)) Fault
  after before elements = names_after schema home before elements

  -- one name, and then others
  one_first : (before : List (List ℕ)) (others : List (Option (List ℕ))) (r : Result (List ℕ) Fault)
      → result_then (λ taken. after (before ++ taken ∷ []) others) r ≡ result_then (λ now. after now others) (result_then (λ taken. after (before ++ taken ∷ []) []) r)
  one_first before others (Ok taken) = refl
  one_first before others (Err fault) = refl

  -- an element, and then others
  pub names_first : (before : List (List ℕ)) (first : Option (List ℕ)) (others : List (Option (List ℕ)))
      → names_after schema home before (first ∷ others) ≡ result_then (λ now. names_after schema home now others) (names_after schema home before (first ∷ []))
  names_first before None others = refl
  names_first before (Some name) others = one_first before others (name_taken schema home before name)

  -- one name alone
  pub name_alone : (before : List (List ℕ)) (name : List ℕ) → result_map (λ taken. before ++ taken ∷ []) (name_taken schema home before name) ≡ names_after schema home before (Some name ∷ [])
  name_alone before name = go (name_taken schema home before name)
    where
      go : (r : Result (List ℕ) Fault) → result_map (λ taken. before ++ taken ∷ []) r ≡ result_then (λ taken. after (before ++ taken ∷ []) []) r
      go (Ok taken) = refl
      go (Err fault) = refl

  -- a name that may be dropped, and then others
  pub given_first : (before : List (List ℕ)) (first : List ℕ) (others : List (List ℕ))
      → names_after schema home before (given (first ∷ others)) ≡ result_then (λ now. names_after schema home now (given others)) (names_after schema home before (given (first ∷ [])))
  given_first before [] others = refl
  given_first before (c ∷ cs) others =
      ap (names_after schema home before) (given_cons c cs others)
      ∙ names_first before (Some (c ∷ cs)) (given others)
      ∙ ap (λ first. result_then (λ now. names_after schema home now (given others)) (names_after schema home before first)) (sym (given_cons c cs []))

  -- what a text lists from a part on
  pub listed_first : (before : List (List ℕ)) (parts : List (List ℕ)) (n : ℕ) (name : List ℕ) → n < length parts → name ≡ get_or parts n name
      → names_after schema home before (given (map trimmed (drop n parts)))
      ≡ result_then (λ now. names_after schema home now (given (map trimmed (drop (n + 1) parts)))) (names_after schema home before (given (trimmed name ∷ [])))
  listed_first before parts n name less is =
      ap (λ rest. names_after schema home before (given (map trimmed rest))) (drop_more parts n name less ∙ ap (λ x. x ∷ drop (n + 1) parts) (sym is))
      ∙ given_first before (trimmed name) (map trimmed (drop (n + 1) parts))
