-- Keys that texts write, taken one after the other.
use Rattle.std.proofs.Common.{◌≡◌, ◌≢◌, Decides, eq-eqb, eqb, eqb-true, ne_eqb, true≢false, arith, Option, Some, None, ℕ, ◌+◌, ◌<◌, ◌≤◌, ◌==◌, not, Bool, false, List, [], ◌∷◌, ◌++◌, length, map, filter, drop, get_or, Result, Ok, Err, append_assoc, append-nil, refl, sym, ap, subst, ◌∙◌}
use Rattle.std.proofs.lemmas.List.{drop_all, drop_more}
use Rattle.std.specs.Cmp.{both_ways}
use Rattle.std.specs.Option.{ok_or}
use Rattle.gr_base.specs.Failure.{Answers, result_map, result_then}
use Rattle.gr_base.specs.Fault.{fault_named}
use Rattle.gr_base.specs.declared.failure.Failure.{Failure}
use Rattle.gr_base.specs.declared.failure.Failure.TheVariants.{NoMemory, Refused}
use Rattle.gr_base.specs.declared.fault.Fault.{Fault}
use Rattle.gr_base.specs.declared.fault.FaultKind.TheVariants.{NoSuchColumn}
use Rattle.gr_base.specs.declared.numbers.TableNo.{TableNo}
use Rattle.gr_print.specs.Columns.{trimmed}
use Rattle.gr_schema.specs.Paths.{path_of}
use Rattle.gr_schema.specs.Schema.{SchemaDef}
use Rattle.gr_values.specs.declared.path.Path.{Path}
use Rattle.gr_sort.specs.Inside.Named.{Adds, AreSortable}
use Rattle.gr_sort.specs.Keys.{is_descending, key_of, keys_of, unsigned}
use Rattle.gr_sort.specs.declared.keys.SortKey.{SortKey}
use Rattle.gr_sort.proofs.OrderLemmas.{filter-first}

-- what is meant by more is meant by all
map_map : (before : List SortKey) (key : SortKey) (others : Result (List SortKey) Fault)
    → result_map (λ more. before ++ more) (result_map (λ more. key ∷ more) others) ≡ result_map (λ more. (before ++ key ∷ []) ++ more) others
map_map before key (Ok more) = ap Ok (sym (append_assoc before (key ∷ []) more))
map_map before key (Err why) = refl

map_nil : (others : Result (List SortKey) Fault) → result_map (λ more. [] ++ more) others ≡ others
map_nil (Ok more) = refl
map_nil (Err why) = refl

-- the texts of pieces, of which empty ones are dropped
abbrev pub given : List (List ℕ) → List (List ℕ)
given texts = filter (λ item. not (length item == 0)) texts

-- the first of the pieces that are left
given-first : (parts : List (List ℕ)) (n : ℕ) (item : List ℕ) → n < length parts → item ≡ get_or parts n item
    → given (map trimmed (drop n parts)) ≡ given (trimmed item ∷ []) ++ given (map trimmed (drop (n + 1) parts))
given-first parts n item here is =
    ap (λ xs. given (map trimmed xs)) (drop_more parts n item here ∙ ap (λ x. x ∷ drop (n + 1) parts) (sym is))
    ∙ sym (filter-first (λ item. not (length item == 0)) (trimmed item) (map trimmed (drop (n + 1) parts)))

module _ (schema : SchemaDef) (table : TableNo) where
  -- what is meant by keys so far and those of texts
  abbrev pub total : List SortKey → List (List ℕ) → Result (List SortKey) Fault
  total before texts = result_map (λ more. before ++ more) (keys_of schema table texts)

  -- texts, and then others
  of-then : (before : List SortKey) (first others : List (List ℕ)) → total before (first ++ others) ≡ result_then (λ mid. total mid others) (total before first)
  of-then before [] others = ap (λ mid. total mid others) (sym (append-nil before))
  of-then before (text ∷ texts) others = go (λ mid. of-then mid texts others) (key_of schema table text)
    where
      go : ((mid : List SortKey) → total mid (texts ++ others) ≡ result_then (λ mid. total mid others) (total mid texts)) → (written : Result SortKey Fault)
          → result_map (λ more. before ++ more) (result_then (λ key. result_map (λ more. key ∷ more) (keys_of schema table (texts ++ others))) written)
          ≡ result_then (λ mid. total mid others) (result_map (λ more. before ++ more) (result_then (λ key. result_map (λ more. key ∷ more) (keys_of schema table texts)) written))
      go more (Ok key) =
          map_map before key (keys_of schema table (texts ++ others)) ∙ more (before ++ key ∷ [])
          ∙ ap (result_then (λ mid. total mid others)) (sym (map_map before key (keys_of schema table texts)))
      go more (Err why) = refl

  -- after texts that were taken others are left
  total-then : (before mid : List SortKey) (first others : List (List ℕ)) → Adds schema table before first (Ok mid) → total before (first ++ others) ≡ total mid others
  total-then before mid first others adds = of-then before first others ∙ ap (result_then (λ mid. total mid others)) (adds.found mid refl)

  -- texts that are refused are refused with others after them
  Adds-stops : (before : List SortKey) (first others : List (List ℕ)) (why : Failure Fault) → Adds schema table before first (Err why) → Adds schema table before (first ++ others) (Err why)
  Adds-stops before first others (Refused fault) adds = record {
    found = λ value e. absurd (cc);
    refused = λ other e. of-then before first others ∙ ap (result_then (λ mid. total mid others)) (adds.refused other e);
  }
  Adds-stops before first others NoMemory adds = record { found = λ value e. absurd (cc); refused = λ other e. absurd (cc) }

  -- no texts
  Adds-none : (before : List SortKey) → Adds schema table before [] (Ok before)
  Adds-none before = record { found = λ value e. ap Ok (append-nil before) ∙ cc; refused = λ why e. absurd (cc) }

  -- what is added to nothing
  pub Adds-all : (texts : List (List ℕ)) (result : Result (List SortKey) (Failure Fault)) → Adds schema table [] texts result → Answers result (keys_of schema table texts)
  Adds-all texts result adds = subst (λ meant. Answers result meant) (map_nil (keys_of schema table texts)) adds

module _ (schema : SchemaDef) (table : TableNo) (all : List (List ℕ)) (parts : List (List ℕ)) (n : ℕ) (before : List SortKey)
    (taken : total schema table [] all ≡ total schema table before (given (map trimmed (drop n parts)))) where
  -- a text that is refused
  pub taken-stops : (item : List ℕ) (why : Failure Fault) → n < length parts → item ≡ get_or parts n item → Adds schema table before (given (trimmed item ∷ [])) (Err why)
      → Adds schema table [] all (Err why)
  taken-stops item why here is stops =
      subst (λ meant. Answers (Err why) meant) (sym (taken ∙ ap (total schema table before) (given-first parts n item here is)))
      (Adds-stops schema table before (given (trimmed item ∷ [])) (given (map trimmed (drop (n + 1) parts))) why stops)

  -- a text that is taken
  pub taken-more : (item : List ℕ) (mid : List SortKey) → n < length parts → item ≡ get_or parts n item → Adds schema table before (given (trimmed item ∷ [])) (Ok mid)
      → total schema table [] all ≡ total schema table mid (given (map trimmed (drop (n + 1) parts)))
  taken-more item mid here is adds =
      taken ∙ ap (total schema table before) (given-first parts n item here is)
      ∙ total-then schema table before mid (given (trimmed item ∷ [])) (given (map trimmed (drop (n + 1) parts))) adds

  -- no text is left
  pub taken-all : length parts ≤ n → Adds schema table [] all (Ok before)
  taken-all end =
      subst (λ meant. Answers (Ok before) meant) (sym (taken ∙ ap (λ xs. total schema table before (given (map trimmed xs))) (drop_all n parts end))) (Adds-none schema table before)

-- no keys can sort
pub AreSortable-none : (schema : SchemaDef) → AreSortable schema []
AreSortable-none schema db same fits = tt

-- a key's sign
pub descends : (text : List ℕ) (r : Bool) → Decides r (get_or text 0 0 ≡ 45) → r ≡ is_descending text
descends [] r decides = both_ways r false (λ e. let none : 0 ≡ 45 = decides.0 e in absurd (omega (arith, none))) (λ e. absurd (true≢false (sym e)))
descends (c ∷ cs) r decides = both_ways r (eqb c 45) (λ e. eq-eqb c 45 (decides.0 e)) (λ e. decides.1 (eqb-true c 45 e))

-- a text without a sign
pub unsigned-kept : (text : List ℕ) → ((rest : List ℕ) → text ≢ 45 ∷ rest) → ((rest : List ℕ) → text ≢ 43 ∷ rest) → unsigned text ≡ text
unsigned-kept [] minus plus = refl
unsigned-kept (c ∷ cs) minus plus = rw (ne_eqb c 45 (λ is. minus cs (ap (λ d. d ∷ cs) is)), ne_eqb c 43 (λ is. plus cs (ap (λ d. d ∷ cs) is))) refl

-- a path that is found
pub path_found : (schema : SchemaDef) (table : TableNo) (name : List ℕ) (path : Path) → Answers (Ok path) (ok_or (path_of schema table name) (fault_named NoSuchColumn name))
    → path_of schema table name ≡ Some path
path_found schema table name path answers = there (path_of schema table name) (answers.found path refl)
  where
    there : (o : Option Path) → ok_or o (fault_named NoSuchColumn name) ≡ Ok path → o ≡ Some path
    there None e = absurd (cc)
    there (Some other) e = cc
