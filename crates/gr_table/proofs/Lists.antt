-- Lists of what a function gives at the first numbers.
use Rattle.std.proofs.lemmas.Option.{none-some, same_Some}
use Rattle.std.proofs.Common.{set, ◌⊎◌, inl, inr, ℕ, zero, suc, ◌≡◌, ◌≢◌, ◌<◌, ◌≤◌, Bool, true, false, cond, List, [], ◌∷◌, ◌++◌, map, length, refl, sym, ap, ◌∙◌, arith}
use Rattle.std.specs.Prelude.{None, Some, slice_get}
use Rattle.std.specs.List.{position}
use Rattle.std.specs.Option.{option_map}
use Rattle.gr_schema.specs.Schema.{changed_at}
use Rattle.gr_table.specs.Inside.Seen.{first}
use Rattle.gr_table.proofs.Places.{position_cons}

module _ {X : Type 0} where
  -- as many as numbers
  pub length-first : (n : ℕ) (f : ℕ → X) → length (first n f) ≡ n
  length-first zero f = refl
  length-first (suc n) f = ap suc (length-first n (λ i. f (suc i)))

  -- what stands at a number
  pub first_at : (n : ℕ) (f : ℕ → X) (i : ℕ) → i < n → slice_get (first n f) i ≡ Some (f i)
  first_at zero f i below = absurd (omega arith)
  first_at (suc n) f zero below = refl
  first_at (suc n) f (suc i) below = first_at n (λ j. f (suc j)) i (omega arith)

  -- nothing stands past the last
  pub first_past : (n : ℕ) (f : ℕ → X) (i : ℕ) → n ≤ i → slice_get (first n f) i ≡ None
  first_past zero f i past = refl
  first_past (suc n) f zero past = absurd (omega arith)
  first_past (suc n) f (suc i) past = first_past n (λ j. f (suc j)) i (omega arith)

  -- functions that agree give the same
  pub first-same : (n : ℕ) (f g : ℕ → X) → ((i : ℕ) → i < n → f i ≡ g i) → first n f ≡ first n g
  first-same zero f g same = refl
  first-same (suc n) f g same = ap (λ x. x ∷ first n (λ i. f (suc i))) (same 0 (omega arith)) ∙ ap (λ xs. g 0 ∷ xs) (first-same n (λ i. f (suc i)) (λ i. g (suc i)) (λ i below. same (suc i) (omega arith)))

  -- one more
  pub first-more : (n : ℕ) (f g : ℕ → X) (x : X) → ((i : ℕ) → i < n → g i ≡ f i) → g n ≡ x → first (suc n) g ≡ first n f ++ x ∷ []
  first-more zero f g x same last = ap (λ y. y ∷ []) last
  first-more (suc n) f g x same last =
      ap (λ y. y ∷ first (suc n) (λ i. g (suc i))) (same 0 (omega arith))
      ∙ ap (λ ys. f 0 ∷ ys) (first-more n (λ i. f (suc i)) (λ i. g (suc i)) x (λ i below. same (suc i) (omega arith)) last)

  -- one changed
  pub first-changed : (n : ℕ) (f g : ℕ → X) (k : ℕ) (change : X → X) → (k < n → g k ≡ change (f k)) → ((i : ℕ) → i < n → i ≢ k → g i ≡ f i) → first n g ≡ changed_at k change (first n f)
  first-changed zero f g k change here elsewhere = refl
  first-changed (suc n) f g zero change here elsewhere =
      ap (λ x. x ∷ first n (λ i. g (suc i))) (here (omega arith))
      ∙ ap (λ xs. change (f 0) ∷ xs) (first-same n (λ i. g (suc i)) (λ i. f (suc i)) (λ i below. elsewhere (suc i) (omega arith) (λ e. absurd (omega (arith, e)))))
  first-changed (suc n) f g (suc k) change here elsewhere =
      ap (λ x. x ∷ first n (λ i. g (suc i))) (elsewhere 0 (omega arith) (λ e. absurd (omega (arith, e))))
      ∙ ap (λ xs. f 0 ∷ xs) (first-changed n (λ i. f (suc i)) (λ i. g (suc i)) k change (λ below. here (omega arith)) (λ i below apart. elsewhere (suc i) (omega arith) (λ e. apart (omega arith))))

  -- the only number that passes is where the first one stands
  pub position_first : (p : X → Bool) (n : ℕ) (f : ℕ → X) (i : ℕ) → i < n → p (f i) ≡ true → ((j : ℕ) → j < n → p (f j) ≡ true → j ≡ i) → position p (first n f) ≡ Some i
  position_first p zero f i below passes only = absurd (omega arith)
  position_first p (suc n) f zero below passes only =
      position_cons p (f 0) (first n (λ j. f (suc j))) ∙ ap (λ b. cond b (Some 0) (option_map suc (position p (first n (λ j. f (suc j)))))) passes
  position_first p (suc n) f (suc i) below passes only =
      position_cons p (f 0) (first n (λ j. f (suc j)))
      ∙ ap (λ b. cond b (Some 0) (option_map suc (position p (first n (λ j. f (suc j)))))) (not_first (p (f 0)) refl)
      ∙ ap (option_map suc) (position_first p n (λ j. f (suc j)) i (omega arith) passes (λ j under is. let e : suc j ≡ suc i = only (suc j) (omega arith) is in omega arith))
    where
      not_first : (b : Bool) → p (f 0) ≡ b → p (f 0) ≡ false
      not_first true is = let e : 0 ≡ suc i = only 0 (omega arith) is in absurd (omega arith)
      not_first false is = is

  -- no number passes
  pub position_none : (p : X → Bool) (n : ℕ) (f : ℕ → X) → ((i : ℕ) → i < n → p (f i) ≡ false) → position p (first n f) ≡ None
  position_none p zero f none = refl
  position_none p (suc n) f none =
      position_cons p (f 0) (first n (λ j. f (suc j)))
      ∙ ap (λ b. cond b (Some 0) (option_map suc (position p (first n (λ j. f (suc j)))))) (none 0 (omega arith))
      ∙ ap (option_map suc) (position_none p n (λ j. f (suc j)) (λ i below. none (suc i) (omega arith)))

module _ {X Y : Type 0} where
  -- the images
  pub map-first : (h : X → Y) (n : ℕ) (f : ℕ → X) → map h (first n f) ≡ first n (λ i. h (f i))
  map-first h zero f = refl
  map-first h (suc n) f = ap (λ ys. h (f 0) ∷ ys) (map-first h n (λ i. f (suc i)))

-- what stands in a list with one more item stood there before, or is that item
pub slice_get_push : {X : Type 0} (xs : List X) (y : X) (n : ℕ) (x : X) → slice_get (xs ++ y ∷ []) n ≡ Some x → (slice_get xs n ≡ Some x) ⊎ ((n ≡ length xs) × (y ≡ x))
slice_get_push [] y zero x e = inr (refl, same_Some y x e)
slice_get_push [] y (suc n) x e = absurd (none-some x e)
slice_get_push (z ∷ xs) y zero x e = inl e
slice_get_push (z ∷ xs) y (suc n) x e = elim (slice_get_push xs y n x e) [
  | inl before ↦ inl before
  | inr last ↦ inr (ap suc last.0, last.1)
]

-- a change where an item stands is that item's replacement
pub changed_at_set : {X : Type 0} (k : ℕ) (change : X → X) (xs : List X) (x : X) → slice_get xs k ≡ Some x → set xs k (change x) ≡ changed_at k change xs
changed_at_set k change [] x e = absurd (none-some x e)
changed_at_set zero change (y ∷ xs) x e = ap (λ z. z ∷ xs) (ap change (sym (same_Some y x e)))
changed_at_set (suc k) change (y ∷ xs) x e = ap (λ zs. y ∷ zs) (changed_at_set k change xs x e)
