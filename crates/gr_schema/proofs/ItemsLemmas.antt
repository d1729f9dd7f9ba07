-- Items of lists that grow or change at one place.
use Rattle.std.proofs.Common.{ℕ, zero, suc, ◌≡◌, ◌≢◌, ◌⊎◌, inl, inr, ◌+◌, ◌<◌, ◌≤◌, Bool, true, false, ◌&&◌, cond, List, [], ◌∷◌, ◌++◌, length, refl, sym, ap, subst, ◌∙◌, arith, set, filter_map}
use Rattle.std.specs.Prelude.{None, Some, Option, is_some, slice_get}
use Rattle.std.specs.Option.{option_map}
use Rattle.std.specs.List.{list_all, position, slice_split, onto_first}
use Rattle.std.proofs.lemmas.Option.{none-some, same_Some}
use Rattle.gr_schema.specs.Fields.{only}
use Rattle.gr_schema.specs.Schema.{changed_at}
use Rattle.gr_schema.proofs.PlacesLemmas.{position_cons}

-- what stands in a list stands there with more after it
pub slice_get_left : {X : Type 0} (xs ys : List X) (n : ℕ) (x : X) → slice_get xs n ≡ Some x → slice_get (xs ++ ys) n ≡ Some x
slice_get_left [] ys n x e = absurd (none-some x e)
slice_get_left (y ∷ xs) ys zero x e = e
slice_get_left (y ∷ xs) ys (suc n) x e = slice_get_left xs ys n x e

-- the item after a list
pub slice_get_end : {X : Type 0} (xs : List X) (y : X) → slice_get (xs ++ y ∷ []) (length xs) ≡ Some y
slice_get_end [] y = refl
slice_get_end (x ∷ xs) y = slice_get_end xs y

-- what stands in a list with one more item stood there before, or is that item
pub slice_get_push : {X : Type 0} (xs : List X) (y : X) (n : ℕ) (x : X) → slice_get (xs ++ y ∷ []) n ≡ Some x → (slice_get xs n ≡ Some x) ⊎ ((n ≡ length xs) × (y ≡ x))
slice_get_push [] y zero x e = inr (refl, same_Some y x e)
slice_get_push [] y (suc n) x e = absurd (none-some x e)
slice_get_push (z ∷ xs) y zero x e = inl e
slice_get_push (z ∷ xs) y (suc n) x e = elim (slice_get_push xs y n x e) [
  | inl before ↦ inl before
  | inr last ↦ inr (ap suc last.0, last.1)
]

-- nothing stands past the end
pub slice_get_none : {X : Type 0} (xs : List X) (x : X) → slice_get xs (length xs) ≡ Some x → ⊥
slice_get_none [] x e = none-some x e
slice_get_none (y ∷ xs) x e = slice_get_none xs x e

-- the first place stays with more after it
pub position_left : {X : Type 0} (p : X → Bool) (xs ys : List X) (n : ℕ) → position p xs ≡ Some n → position p (xs ++ ys) ≡ Some n
position_left p [] ys n e = absurd (none-some n e)
position_left p (x ∷ xs) ys n e = position_cons p x (xs ++ ys) ∙ go (p x) (position p xs) (position p (xs ++ ys)) (position_left p xs ys) (sym (position_cons p x xs) ∙ e)
  where
    go : (b : Bool) (o more : Option ℕ) → ((m : ℕ) → o ≡ Some m → more ≡ Some m) → cond b (Some 0) (option_map suc o) ≡ Some n → cond b (Some 0) (option_map suc more) ≡ Some n
    go true o more further e = e
    go false None more further e = absurd (none-some n e)
    go false (Some m) more further e = ap (option_map suc) (further m refl) ∙ e

-- what is changed at its place, and stays at others
pub slice_get-changed_same : {X : Type 0} (k : ℕ) (change : X → X) (xs : List X) → slice_get (changed_at k change xs) k ≡ option_map change (slice_get xs k)
slice_get-changed_same k change [] = refl
slice_get-changed_same zero change (x ∷ xs) = refl
slice_get-changed_same (suc k) change (x ∷ xs) = slice_get-changed_same k change xs

pub slice_get-changed_other : {X : Type 0} (k n : ℕ) (change : X → X) (xs : List X) → n ≢ k → slice_get (changed_at k change xs) n ≡ slice_get xs n
slice_get-changed_other k n change [] apart = refl
slice_get-changed_other zero zero change (x ∷ xs) apart = absurd (apart refl)
slice_get-changed_other zero (suc n) change (x ∷ xs) apart = refl
slice_get-changed_other (suc k) zero change (x ∷ xs) apart = refl
slice_get-changed_other (suc k) (suc n) change (x ∷ xs) apart = slice_get-changed_other k n change xs (λ e. apart (ap suc e))

-- a change that keeps what is asked keeps the first place
pub position-changed : {X : Type 0} (p : X → Bool) (k : ℕ) (change : X → X) (xs : List X) → ((x : X) → p (change x) ≡ p x) → position p (changed_at k change xs) ≡ position p xs
position-changed p k change [] kept = refl
position-changed p zero change (x ∷ xs) kept = position_cons p (change x) xs ∙ ap (λ b. cond b (Some 0) (option_map suc (position p xs))) (kept x) ∙ sym (position_cons p x xs)
position-changed p (suc k) change (x ∷ xs) kept =
    position_cons p x (changed_at k change xs) ∙ ap (λ o. cond (p x) (Some 0) (option_map suc o)) (position-changed p k change xs kept) ∙ sym (position_cons p x xs)

-- a change where an item stands is that item's replacement
pub changed_at_set : {X : Type 0} (k : ℕ) (change : X → X) (xs : List X) (x : X) → slice_get xs k ≡ Some x → set xs k (change x) ≡ changed_at k change xs
changed_at_set k change [] x e = absurd (none-some x e)
changed_at_set zero change (y ∷ xs) x e = ap (λ z. z ∷ xs) (ap change (sym (same_Some y x e)))
changed_at_set (suc k) change (y ∷ xs) x e = ap (λ zs. y ∷ zs) (changed_at_set k change xs x e)

-- a change keeps the length
pub length-changed_at : {X : Type 0} (k : ℕ) (change : X → X) (xs : List X) → length (changed_at k change xs) ≡ length xs
length-changed_at k change [] = refl
length-changed_at zero change (x ∷ xs) = refl
length-changed_at (suc k) change (x ∷ xs) = ap suc (length-changed_at k change xs)

-- what passes is what was found, and passes
pub only_some : {X : Type 0} (p : X → Bool) (o : Option X) (x : X) → only p o ≡ Some x → (o ≡ Some x) × (p x ≡ true)
only_some p None x e = absurd (none-some x e)
only_some {X = X} p (Some y) x e = go (p y) refl e
  where
    go : (b : Bool) → p y ≡ b → ◌≡◌ {A = Option X} (cond b (Some y) None) (Some x) → (◌≡◌ {A = Option X} (Some y) (Some x)) × (p x ≡ true)
    go true is e = (e, subst (λ z. p z ≡ true) (same_Some y x e) is)
    go false is e = absurd (none-some x e)
