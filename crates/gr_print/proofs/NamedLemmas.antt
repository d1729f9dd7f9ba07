-- Columns that names ask for, taken one name after the other.
use Rattle.std.proofs.Common.{◌≡◌, ℕ, Bool, true, false, cond, List, [], ◌∷◌, ◌++◌, filter, Result, Ok, Err, append_assoc, refl, sym, ap, subst, ◌∙◌}
use Rattle.std.proofs.lemmas.List.{append-nil}
use Rattle.std.specs.List.{AllByRecursion}
use Rattle.gr_base.specs.Failure.{Answers, result_map, result_then}
use Rattle.gr_base.specs.declared.failure.Failure.{Failure}
use Rattle.gr_base.specs.declared.failure.Failure.TheVariants.{NoMemory, Refused}
use Rattle.gr_base.specs.declared.fault.Fault.{Fault}
use Rattle.gr_base.specs.declared.numbers.TableNo.{TableNo}
use Rattle.gr_print.specs.Columns.{columns_named, columns_of}
use Rattle.gr_print.specs.Fits.{IsPrintable}
use Rattle.gr_print.specs.Inside.Named.{Adds, ArePrintable}
use Rattle.gr_print.specs.declared.out_column.OutColumn.{OutColumn}
use Rattle.gr_schema.specs.Schema.{SchemaDef}

-- two lists after a list
map_map : (before first : List OutColumn) (others : Result (List OutColumn) Fault)
    → result_map (λ more. before ++ more) (result_map (λ more. first ++ more) others) ≡ result_map (λ more. (before ++ first) ++ more) others
map_map before first (Ok more) = ap Ok (sym (append_assoc before first more))
map_map before first (Err why) = refl

map_nil : (others : Result (List OutColumn) Fault) → result_map (λ more. [] ++ more) others ≡ others
map_nil (Ok more) = refl
map_nil (Err why) = refl

module _ (schema : SchemaDef) (table : TableNo) where
  -- what is meant by columns so far and those of names
  abbrev pub total : List OutColumn → List (List ℕ) → Result (List OutColumn) Fault
  total before names = result_map (λ more. before ++ more) (columns_of schema table names)

  -- names, and then others
  of-then : (before : List OutColumn) (first others : List (List ℕ)) → total before (first ++ others) ≡ result_then (λ mid. total mid others) (total before first)
  of-then before [] others = ap (λ mid. total mid others) (sym (append-nil before))
  of-then before (name ∷ names) others = go (λ mid. of-then mid names others) (columns_named schema table name)
    where
      go : ((mid : List OutColumn) → total mid (names ++ others) ≡ result_then (λ mid. total mid others) (total mid names)) → (named : Result (List OutColumn) Fault)
          → result_map (λ more. before ++ more) (result_then (λ first. result_map (λ more. first ++ more) (columns_of schema table (names ++ others))) named)
          ≡ result_then (λ mid. total mid others) (result_map (λ more. before ++ more) (result_then (λ first. result_map (λ more. first ++ more) (columns_of schema table names)) named))
      go more (Ok first) =
          map_map before first (columns_of schema table (names ++ others)) ∙ more (before ++ first)
          ∙ ap (result_then (λ mid. total mid others)) (sym (map_map before first (columns_of schema table names)))
      go more (Err why) = refl

  -- after names that were taken others are left
  pub total-then : (before mid : List OutColumn) (first others : List (List ℕ)) → Adds schema table before first (Ok mid) → total before (first ++ others) ≡ total mid others
  total-then before mid first others adds = of-then before first others ∙ ap (result_then (λ mid. total mid others)) (adds.found mid refl)

  -- names that are refused are refused with others after them
  pub Adds-stops : (before : List OutColumn) (first others : List (List ℕ)) (why : Failure Fault) → Adds schema table before first (Err why) → Adds schema table before (first ++ others) (Err why)
  Adds-stops before first others (Refused fault) adds = record {
    found = λ value e. absurd (cc);
    refused = λ other e. of-then before first others ∙ ap (result_then (λ mid. total mid others)) (adds.refused other e);
  }
  Adds-stops before first others NoMemory adds = record { found = λ value e. absurd (cc); refused = λ other e. absurd (cc) }

  -- names are taken, and then others
  pub Adds-then : (before mid : List OutColumn) (first others : List (List ℕ)) (result : Result (List OutColumn) (Failure Fault)) → Adds schema table before first (Ok mid)
      → Adds schema table mid others result → Adds schema table before (first ++ others) result
  Adds-then before mid first others result one more = subst (λ meant. Answers result meant) (sym (total-then before mid first others one)) more

  -- no names
  pub Adds-none : (before : List OutColumn) → Adds schema table before [] (Ok before)
  Adds-none before = record { found = λ value e. ap Ok (append-nil before) ∙ cc; refused = λ why e. absurd (cc) }

  -- one name
  pub Adds-one : (before more : List OutColumn) (name : List ℕ) → Answers (Ok more) (columns_named schema table name) → Adds schema table before (name ∷ []) (Ok (before ++ more))
  Adds-one before more name named = record {
    found = λ value e.
        ap (λ r. result_map (λ more. before ++ more) (result_then (λ first. result_map (λ others. first ++ others) (columns_of schema table [])) r)) (named.found more refl)
        ∙ ap (λ all. Ok (before ++ all)) (append-nil more) ∙ cc;
    refused = λ why e. absurd (cc);
  }

  -- what is added to nothing
  pub Adds-all : (names : List (List ℕ)) (result : Result (List OutColumn) (Failure Fault)) → Adds schema table [] names result → Answers result (columns_of schema table names)
  Adds-all names result adds = subst (λ meant. Answers result meant) (map_nil (columns_of schema table names)) adds

-- what is meant is found
pub Answers-found : {T F : Type 0} (meant : Result T F) (x y : T) → meant ≡ Ok y → x ≡ y → Answers (Ok x) meant
Answers-found meant x y is same = record { found = λ value e. let value_is : y ≡ value = cc in is ∙ ap Ok value_is; refused = λ why e. absurd (cc) }

-- the first of names that may be left out
pub filter-first : {X : Type 0} (keep : X → Bool) (x : X) (xs : List X) → filter keep (x ∷ xs) ≡ filter keep (x ∷ []) ++ filter keep xs
filter-first keep x xs = elim (keep x) as (λ b. cond b (x ∷ filter keep xs) (filter keep xs) ≡ cond b (x ∷ []) [] ++ filter keep xs) [ true ↦ refl | false ↦ refl ]

-- columns that can be printed, and more
AllByRecursion-append : {X : Type 0} (P : X → Type 0) (xs ys : List X) → AllByRecursion P xs → AllByRecursion P ys → AllByRecursion P (xs ++ ys)
AllByRecursion-append P [] ys all more = more
AllByRecursion-append P (x ∷ xs) ys all more = (all.0, AllByRecursion-append P xs ys all.1 more)

pub ArePrintable-none : (schema : SchemaDef) → ArePrintable schema []
ArePrintable-none schema db same fits = tt

pub ArePrintable-more : (schema : SchemaDef) (xs ys : List OutColumn) → ArePrintable schema xs → ArePrintable schema ys → ArePrintable schema (xs ++ ys)
ArePrintable-more schema xs ys all more db same fits = AllByRecursion-append (IsPrintable db.tables) xs ys (all db same fits) (more db same fits)
