-- What holds of each element of a list.
use Rattle.std.proofs.Common.{◌≡◌, ℕ, zero, suc, ◌<◌, ◌⊎◌, Some, List, [], ◌∷◌, ◌++◌, length, inl, inr, arith}
use Rattle.std.proofs.lemmas.List.Elements.{All-contains, All-from_recursion, Contains-get_or, recursion_from_All}
use Rattle.std.specs.List.{AllByRecursion, Contains, slice_get}

pub all_weaker : {X : Type 0} (P Q : X → Type 0) (xs : List X) → ((x : X) → P x → Q x) → AllByRecursion P xs → AllByRecursion Q xs
all_weaker P Q [] weaker all = tt
all_weaker P Q (x ∷ xs) weaker all = (weaker x all.0, all_weaker P Q xs weaker all.1)

pub all_append : {X : Type 0} (P : X → Type 0) (xs ys : List X) → AllByRecursion P xs → AllByRecursion P ys → AllByRecursion P (xs ++ ys)
all_append P [] ys all more = more
all_append P (x ∷ xs) ys all more = (all.0, all_append P xs ys all.1 more)

pub all_split : {X : Type 0} (P : X → Type 0) (xs ys : List X) → AllByRecursion P (xs ++ ys) → AllByRecursion P xs × AllByRecursion P ys
all_split P [] ys all = (tt, all)
all_split P (x ∷ xs) ys all = let rest = all_split P xs ys all.1 in ((all.0, rest.0), rest.1)

pub all_at : {X : Type 0} (P : X → Type 0) (xs : List X) (x : X) → AllByRecursion P xs → Contains xs x → P x
all_at P xs x all among = All-contains P xs x (All-from_recursion P xs all) among

pub all_of : {X : Type 0} (P : X → Type 0) (xs : List X) → ((x : X) → Contains xs x → P x) → AllByRecursion P xs
all_of P xs each = recursion_from_All P xs (λ place other within. each _ (Contains-get_or xs place other within))

all_there : {X : Type 0} (P : X → Type 0) (xs : List X) (place : ℕ) (x : X) → AllByRecursion P xs → slice_get xs place ≡ Some x → P x
all_there P [] place x all is = cc
all_there P (first ∷ xs) zero x all is = let same : first ≡ x = cc in rw (← same) all.0
all_there P (first ∷ xs) (suc place) x all is = all_there P xs place x all.1 is

-- what stands at a place of a list and more stands in the list there, or is of what was added
pub at_or_added : {X : Type 0} (P : X → Type 0) (xs added : List X) (place : ℕ) (x : X) → AllByRecursion P added → slice_get (xs ++ added) place ≡ Some x → ((place < length xs) × (slice_get xs place ≡ Some x)) ⊎ P x
at_or_added P [] added place x all is = inr (all_there P added place x all is)
at_or_added P (first ∷ xs) added zero x all is = inl (omega arith, is)
at_or_added P (first ∷ xs) added (suc place) x all is =
    elim (at_or_added P xs added place x all is) [ inl there ↦ inl (omega arith, there.1) | inr new ↦ inr new ]
