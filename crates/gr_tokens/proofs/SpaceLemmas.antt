-- The first piece of a text between spaces.
use Rattle.std.proofs.Common.{ℕ, zero, suc, ◌≡◌, ◌<◌, Bool, true, List, [], ◌∷◌, length, take, drop, get_or, refl, ap, ◌∙◌, arith}
use Rattle.std.proofs.lemmas.Bool.{false_from_ne_true}
use Rattle.std.proofs.lemmas.List.Splits.{slice_split-cons_yes, slice_split-cons_no}
use Rattle.std.specs.List.{slice_split, onto_first}

module _ (passes : ℕ → Bool) where
  -- the whole where no byte passes
  pub slice_split-none : (bytes : List ℕ) → ((k : ℕ) → k < length bytes → ¬ (passes (get_or bytes k 0) ≡ true)) → slice_split passes bytes ≡ bytes ∷ []
  slice_split-none [] none = refl
  slice_split-none (x ∷ xs) none =
      slice_split-cons_no passes x xs (false_from_ne_true (passes x) (none 0 (omega arith)))
      ∙ ap (onto_first x) (slice_split-none xs (λ k below. none (suc k) (omega arith)))

  -- the bytes before the first one that passes, and the pieces after it
  pub slice_split-first : (bytes : List ℕ) (k : ℕ) → k < length bytes → ((j : ℕ) → j < k → ¬ (passes (get_or bytes j 0) ≡ true)) → passes (get_or bytes k 0) ≡ true → slice_split passes bytes ≡ take k bytes ∷ slice_split passes (drop (suc k) bytes)
  slice_split-first [] k within before here = absurd (omega arith)
  slice_split-first (x ∷ xs) zero within before here = slice_split-cons_yes passes x xs here
  slice_split-first (x ∷ xs) (suc k) within before here =
      slice_split-cons_no passes x xs (false_from_ne_true (passes x) (before 0 (omega arith)))
      ∙ ap (onto_first x) (slice_split-first xs k (omega arith) (λ j below. before (suc j) (omega arith)) here)
