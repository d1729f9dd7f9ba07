-- What is made of elements, taken one after the other, up to the first fault.
use Rattle.std.proofs.Common.{◌≡◌, ℕ, zero, suc, ◌+◌, ◌<◌, ◌≤◌, arith, List, map, [], ◌∷◌, ◌++◌, drop, get_or, length, Result, Ok, Err, append_assoc, append-nil, refl, sym, ap, subst, ◌∙◌}
use Rattle.std.proofs.lemmas.List.{drop_all, drop_more}
use Rattle.std.specs.List.{AllByRecursion}
use Rattle.gr_base.specs.Failure.{Answers, result_map, result_then}
use Rattle.gr_base.specs.declared.failure.Failure.{Failure}
use Rattle.gr_base.specs.declared.failure.Failure.TheVariants.{NoMemory, Refused}
use Rattle.gr_base.specs.declared.fault.Fault.{Fault}
use Rattle.gr_drill.specs.Drilldowns.{alone, gathered}

-- those so far, and those of elements that are left
abbrev pub total : {X Y : Type 0} → (X → Result (List Y) Fault) → List Y → List X → Result (List Y) Fault
total f made xs = result_map (λ more. made ++ more) (gathered f xs)

-- nothing so far
pub total-first : {X Y : Type 0} (f : X → Result (List Y) Fault) (xs : List X) → total f [] xs ≡ gathered f xs
total-first {X} {Y} f xs = go (gathered f xs)
  where
    go : (others : Result (List Y) Fault) → result_map (λ more. [] ++ more) others ≡ others
    go (Ok more) = refl
    go (Err why) = refl

map_map : {Y : Type 0} (made first : List Y) (others : Result (List Y) Fault) → result_map (λ more. made ++ more) (result_map (λ more. first ++ more) others) ≡ result_map (λ more. (made ++ first) ++ more) others
map_map made first (Ok more) = ap Ok (sym (append_assoc made first more))
map_map made first (Err why) = refl

total-next : {X Y : Type 0} (f : X → Result (List Y) Fault) (made more : List Y) (x : X) (xs : List X) → f x ≡ Ok more → total f made (x ∷ xs) ≡ total f (made ++ more) xs
total-next f made more x xs is =
    ap (λ r. result_map (λ more. made ++ more) (result_then (λ first. result_map (λ others. first ++ others) (gathered f xs)) r)) is
    ∙ map_map made more (gathered f xs)

total-fault : {X Y : Type 0} (f : X → Result (List Y) Fault) (made : List Y) (why : Fault) (x : X) (xs : List X) → f x ≡ Err why → total f made (x ∷ xs) ≡ Err why
total-fault f made why x xs is = ap (λ r. result_map (λ more. made ++ more) (result_then (λ first. result_map (λ others. first ++ others) (gathered f xs)) r)) is

module _ {X Y : Type 0} (f : X → Result (List Y) Fault) (all : List X) (n : ℕ) (made : List Y) (x : X) (so_far : total f made (drop n all) ≡ gathered f all) (here : n < length all) (is : x ≡ get_or all n x) where
  left : drop n all ≡ x ∷ drop (n + 1) all
  left = drop_more all n x here ∙ ap (λ y. y ∷ drop (n + 1) all) (sym is)

  -- an element that is taken
  pub gathered-more : (more : List Y) → Answers (Ok more) (f x) → total f (made ++ more) (drop (n + 1) all) ≡ gathered f all
  gathered-more more answers = sym (total-next f made more x (drop (n + 1) all) (answers.found more refl)) ∙ ap (total f made) (sym left) ∙ so_far

  -- an element that is refused
  pub gathered-stops : (why : Failure Fault) → Answers (Err why) (f x) → Answers (Err why) (gathered f all)
  gathered-stops (Refused fault) answers = record {
    found = λ value e. absurd (cc);
    refused = λ other e. sym so_far ∙ ap (total f made) left ∙ total-fault f made other x (drop (n + 1) all) (answers.refused other e);
  }
  gathered-stops NoMemory answers = record { found = λ value e. absurd (cc); refused = λ other e. absurd (cc) }

-- no element is left
pub gathered-all : {X Y : Type 0} (f : X → Result (List Y) Fault) (all : List X) (n : ℕ) (made : List Y) → length all ≤ n → total f made (drop n all) ≡ gathered f all → Answers (Ok made) (gathered f all)
gathered-all f all n made end so_far =
    let is : gathered f all ≡ Ok made = sym so_far ∙ ap (total f made) (drop_all n all end) ∙ ap Ok (append-nil made) in
    record { found = λ value e. is ∙ cc; refused = λ why e. absurd (cc) }

-- one that is made of an element, or its fault
pub Answers-alone : {Y : Type 0} (meant : Result Y Fault) (y : Y) → Answers (Ok y) meant → Answers (Ok (y ∷ [])) (result_map alone meant)
Answers-alone meant y answers = record { found = λ value e. ap (result_map alone) (answers.found y refl) ∙ cc; refused = λ why e. absurd (cc) }

pub Answers-fault : {Y : Type 0} (meant : Result Y Fault) (why : Failure Fault) → Answers (Err why) meant → Answers (Err why) (result_map (λ (y : Y). y ∷ []) meant)
Answers-fault {Y} meant (Refused fault) answers = record {
  found = λ value e. absurd (cc);
  refused = λ other e. let same : fault ≡ other = cc in ap (result_map (λ (y : Y). y ∷ [])) (answers.refused other (ap (λ f. Err (Refused f)) same));
}
Answers-fault meant NoMemory answers = record { found = λ value e. absurd (cc); refused = λ other e. absurd (cc) }

-- an element as it is shown
pub at-map : {A X : Type 0} (show : A → X) (xs : List A) (n : ℕ) (d : A) (e : X) → n < length xs → show (get_or xs n d) ≡ get_or (map show xs) n e
at-map show [] n d e here = absurd (omega (arith, here))
at-map show (x ∷ xs) zero d e here = refl
at-map show (x ∷ xs) (suc n) d e here = at-map show xs n d e (omega (arith, here))

-- what holds of lists holds of them together
pub all-append : {X : Type 0} (P : X → Type 0) (xs ys : List X) → AllByRecursion P xs → AllByRecursion P ys → AllByRecursion P (xs ++ ys)
all-append P [] ys one other = other
all-append P (x ∷ xs) ys one other = (one.0, all-append P xs ys one.1 other)
