-- The place of the first item that passes.
use Rattle.std.proofs.Common.{ℕ, zero, suc, ◌≡◌, ◌+◌, Bool, true, false, cond, not, List, ◌∷◌, length, refl, sym}
use Rattle.std.proofs.Math.Numerals.{one-add}
use Prim.Native.Nat.compare
use Rattle.std.specs.Prelude.{None, Some, Option, nat_lt}
use Rattle.std.specs.Option.{option_map}
use Rattle.std.specs.List.{position, position_or_len}

option_map-cond : {A B : Type 0} (f : A → B) (b : Bool) (x : A) → option_map f (cond b (Some x) None) ≡ cond b (Some (f x)) None
option_map-cond f true x = refl
option_map-cond f false x = refl

first_of_all : (n : ℕ) → cond {A = Option ℕ} (lib.Dec.is_le (Prim.Native.Nat.compare 0 n)) (Some 0) None ≡ Some 0
first_of_all zero = refl
first_of_all (suc n) = rw compare.zero-suc refl

-- at the first item, or one further than in the rest
pub position_cons : {X : Type 0} (p : X → Bool) (x : X) (xs : List X) → position p (x ∷ xs) ≡ cond (p x) (Some 0) (option_map suc (position p xs))
position_cons p x xs =
    elim (p x) as (λ b. cond (nat_lt (cond (not b) (1 + position_or_len p xs) 0) (suc (length xs))) (Some (cond (not b) (1 + position_or_len p xs) 0)) None ≡ cond b (Some 0) (option_map suc (position p xs))) [
      | true ↦ rw compare.suc-suc (first_of_all (length xs))
      | false ↦ rw (one-add, compare.suc-suc) (sym (option_map-cond suc (nat_lt (position_or_len p xs) (length xs)) (position_or_len p xs)))
    ]
