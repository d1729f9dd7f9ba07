-- The place of the first item that passes.
use Rattle.std.proofs.Common.{ℕ, zero, suc, ◌≡◌, ◌+◌, ◌<◌, ◌≤◌, Bool, true, false, cond, not, List, [], ◌∷◌, ◌++◌, map, length, length-append, refl, sym, ap, subst, ◌∙◌, arith, get_or}
use Rattle.std.proofs.Math.Numerals.{one-add, add-one}
use Prim.Native.Nat.compare
use Rattle.std.specs.Prelude.{None, Some, Option, is_some, slice_get, nat_lt, IsSome}
use Rattle.std.specs.Option.{option_map}
use Rattle.std.proofs.lemmas.Option.{none-some, same_Some}
use Rattle.std.specs.List.{position, position_or_len, prefix_len}

option_map-cond : {A B : Type 0} (f : A → B) (b : Bool) (x : A) → option_map f (cond b (Some x) None) ≡ cond b (Some (f x)) None
option_map-cond f true x = refl
option_map-cond f false x = refl

first_of_all : (n : ℕ) → cond {A = Option ℕ} (lib.Dec.is_le (Prim.Native.Nat.compare 0 n)) (Some 0) None ≡ Some 0
first_of_all zero = refl
first_of_all (suc n) = rw compare.zero-suc refl

-- at the first item, or one further than in the rest
pub position_cons : {X : Type 0} (p : X → Bool) (x : X) (xs : List X) → position p (x ∷ xs) ≡ cond (p x) (Some 0) (option_map suc (position p xs))
position_cons p x xs =
    elim (p x) as (λ b. cond (nat_lt (cond (not b) (1 + position_or_len p xs) 0) (suc (length xs))) (Some (cond (not b) (1 + position_or_len p xs) 0)) None ≡ cond b (Some 0) (option_map suc (position p xs))) [
      | true ↦ rw compare.suc-suc (first_of_all (length xs))
      | false ↦ rw (one-add, compare.suc-suc) (sym (option_map-cond suc (nat_lt (position_or_len p xs) (length xs)) (position_or_len p xs)))
    ]

-- the place among the items and one more: as before where there is one, and otherwise that of the new item
pub position_push : {X : Type 0} (p : X → Bool) (xs : List X) (y : X) → position p (xs ++ y ∷ []) ≡ cond (is_some (position p xs)) (position p xs) (cond (p y) (Some (length xs)) None)
position_push p [] y = position_cons p y []
position_push p (x ∷ xs) y =
    rw (position_cons p x (xs ++ y ∷ []), position_push p xs y, position_cons p x xs)
    (steps (p x) (position p xs) (p y))
  where
    steps : (a : Bool) (o : Option ℕ) (b : Bool) → cond a (Some 0) (option_map suc (cond (is_some o) o (cond b (Some (length xs)) None))) ≡ cond (is_some (cond a (Some 0) (option_map suc o))) (cond a (Some 0) (option_map suc o)) (cond b (Some (suc (length xs))) None)
    steps true o b = refl
    steps false (Some n) b = refl
    steps false None true = refl
    steps false None false = refl

-- there an item stands that passes
pub position_at : {X : Type 0} (p : X → Bool) (xs : List X) (n : ℕ) → position p xs ≡ Some n → (x : X) × (slice_get xs n ≡ Some x) × (p x ≡ true)
position_at p [] n e = absurd (none-some n e)
position_at {X = X} p (x ∷ xs) n e = go (p x) refl (sym (position_cons p x xs) ∙ e) (position_at p xs)
  where
    Found : List X → ℕ → Type 0
    Found ys m = (y : X) × (slice_get ys m ≡ Some y) × (p y ≡ true)

    after : (o : Option ℕ) → position p xs ≡ o → option_map suc o ≡ Some n → ((m : ℕ) → position p xs ≡ Some m → Found xs m) → Found (x ∷ xs) n
    after None is e further = absurd (none-some n e)
    after (Some m) is e further = subst (Found (x ∷ xs)) (same_Some (suc m) n e) (further m is)

    go : (b : Bool) → p x ≡ b → cond b (Some 0) (option_map suc (position p xs)) ≡ Some n → ((m : ℕ) → position p xs ≡ Some m → Found xs m) → Found (x ∷ xs) n
    go true is e further = subst (Found (x ∷ xs)) (same_Some 0 n e) (x, refl, is)
    go false is e further = after (position p xs) refl e further
