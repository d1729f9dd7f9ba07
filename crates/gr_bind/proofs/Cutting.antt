-- Lists cut at the first item that passes.
use Rattle.std.proofs.Common.{ℕ, zero, suc, ◌≡◌, ◌+◌, ◌-◌, Bool, true, false, cond, not, List, [], ◌∷◌, length, take, drop, length-drop, refl, sym, ap, subst, ◌∙◌}
use Rattle.std.proofs.Math.Numerals.{one-add}
use Prim.Native.Nat.compare
use Rattle.std.specs.Prelude.{None, Some, Option, nat_lt}
use Rattle.std.specs.Option.{option_map}
use Rattle.std.specs.List.{onto_first, position, position_or_len, slice_split}
use Rattle.std.proofs.lemmas.Option.{none-some, same_Some}
use Rattle.gr_bind.specs.Inside.Names.{two_of}

option_map-cond : {A B : Type 0} (f : A → B) (b : Bool) (x : A) → option_map f (cond b (Some x) None) ≡ cond b (Some (f x)) None
option_map-cond f true x = refl
option_map-cond f false x = refl

first_of_all : (n : ℕ) → cond {A = Option ℕ} (lib.Dec.is_le (Prim.Native.Nat.compare 0 n)) (Some 0) None ≡ Some 0
first_of_all zero = refl
first_of_all (suc n) = rw compare.zero-suc refl

-- at the first item, or one further than in the rest
position_cons : {X : Type 0} (p : X → Bool) (x : X) (xs : List X) → position p (x ∷ xs) ≡ cond (p x) (Some 0) (option_map suc (position p xs))
position_cons p x xs =
    elim (p x) as (λ b. cond (nat_lt (cond (not b) (1 + position_or_len p xs) 0) (suc (length xs))) (Some (cond (not b) (1 + position_or_len p xs) 0)) None ≡ cond b (Some 0) (option_map suc (position p xs))) [
      | true ↦ rw compare.suc-suc (first_of_all (length xs))
      | false ↦ rw (one-add, compare.suc-suc) (sym (option_map-cond suc (nat_lt (position_or_len p xs) (length xs)) (position_or_len p xs)))
    ]

-- where no item passes, the list is the one part
pub split_none : {X : Type 0} (p : X → Bool) (xs : List X) → position p xs ≡ None → slice_split p xs ≡ xs ∷ []
split_none p [] e = refl
split_none {X = X} p (x ∷ xs) e = go (p x) (position p xs) (split_none p xs) (sym (position_cons p x xs) ∙ e)
  where
    go : (b : Bool) (o : Option ℕ) → (o ≡ None → slice_split p xs ≡ xs ∷ []) → cond b (Some 0) (option_map suc o) ≡ None → cond b ([] ∷ slice_split p xs) (onto_first x (slice_split p xs)) ≡ (x ∷ xs) ∷ []
    go true o further e = absurd (none-some 0 (sym e))
    go false None further e = ap (onto_first x) (further refl)
    go false (Some m) further e = absurd (none-some (suc m) (sym e))

-- the first part stands before the first item that passes, and the others are those of what stands after it
pub split_some : {X : Type 0} (p : X → Bool) (xs : List X) (n : ℕ) → position p xs ≡ Some n → slice_split p xs ≡ take n xs ∷ slice_split p (drop (suc n) xs)
split_some p [] n e = absurd (none-some n e)
split_some {X = X} p (x ∷ xs) n e = go (p x) (position p xs) (split_some p xs) (sym (position_cons p x xs) ∙ e)
  where
    Parts : Bool → ℕ → Type 0
    Parts b m = ◌≡◌ {A = List (List X)} (cond b ([] ∷ slice_split p xs) (onto_first x (slice_split p xs))) (take m (x ∷ xs) ∷ slice_split p (drop (suc m) (x ∷ xs)))

    go : (b : Bool) (o : Option ℕ) → ((m : ℕ) → o ≡ Some m → slice_split p xs ≡ take m xs ∷ slice_split p (drop (suc m) xs)) → cond b (Some 0) (option_map suc o) ≡ Some n → Parts b n
    go true o further e = subst (Parts true) (same_Some 0 n e) refl
    go false None further e = absurd (none-some n e)
    go false (Some m) further e = subst (Parts false) (same_Some (suc m) n e) (ap (onto_first x) (further m refl))

take_whole : {X : Type 0} (n : ℕ) (xs : List X) → n ≡ length xs → take n xs ≡ xs
take_whole n [] e = rw e refl
take_whole n (x ∷ xs) e = rw e (ap (λ ys. x ∷ ys) (take_whole (length xs) xs refl))

-- the rest of a list, as a slice up to its end
pub rest_whole : {X : Type 0} (k : ℕ) (xs : List X) → take (length xs - k) (drop k xs) ≡ drop k xs
rest_whole k xs = take_whole (length xs - k) (drop k xs) (sym (length-drop k xs))

-- more than two names
pub more_names : (p : ℕ → Bool) (x y zs : List ℕ) → None ≡ two_of (x ∷ y ∷ slice_split p zs)
more_names p x y [] = refl
more_names p x y (z ∷ zs) = go (p z) (slice_split p zs)
  where
    go : (b : Bool) (parts : List (List ℕ)) → None ≡ two_of (x ∷ y ∷ cond b ([] ∷ parts) (onto_first z parts))
    go true parts = refl
    go false [] = refl
    go false (part ∷ parts) = refl
