-- The least and the greatest of some values are those that two folds reach.
use Rattle.std.proofs.Common.{ℕ, ℤ, ◌≡◌, ◌≤◌, ◌≤ℤ◌, ◌⊎◌, List, [], ◌∷◌, length, take, arith, inl, inr, sym}
use Rattle.std.specs.Int.{int_min, int_max}
use Rattle.std.specs.List.{fold, All, Contains}
use Rattle.std.proofs.lemmas.Int.{fold-int_min_reached, fold-int_min_bounds, fold-int_max_reached, fold-int_max_bounds}
use Rattle.std.proofs.lemmas.List.{take_all}
use Rattle.std.proofs.lemmas.List.Elements.{All-cons, Contains-append_right}
use Rattle.gr_lanes.specs.Mask.{AreEnds}

reached : (first : ℤ) (others : List ℤ) (end : ℤ) → ((end ≡ first) ⊎ Contains others end) → Contains (first ∷ others) end
reached first others end (inl e) = (0, omega arith, sym e)
reached first others end (inr among) = Contains-append_right (first ∷ []) others end among

within : (first least greatest : ℤ) (others : List ℤ) → least ≤ℤ first → first ≤ℤ greatest → All (λ x. least ≤ℤ x) others → All (λ x. x ≤ℤ greatest) others → All (λ x. (least ≤ℤ x) × (x ≤ℤ greatest)) (first ∷ others)
within first least greatest others low high lows highs =
    All-cons (λ x. (least ≤ℤ x) × (x ≤ℤ greatest)) first others (low, high) (λ k d inside. (lows k d inside, highs k d inside))

folded : (first : ℤ) (others : List ℤ) (least greatest : ℤ) → least ≡ fold int_min first others → greatest ≡ fold int_max first others → AreEnds (first ∷ others) least greatest
folded first others least greatest low high =
    let (below_first, below) = fold-int_min_bounds first others least low in
    let (above_first, above) = fold-int_max_bounds first others greatest high in
    record {
      least_among = reached first others least (fold-int_min_reached first others least low);
      greatest_among = reached first others greatest (fold-int_max_reached first others greatest high);
      within = within first least greatest others below_first above_first below above;
    }

-- a loop over the others has come to their end
pub AreEnds-from_folds : (values others : List ℤ) (first start least greatest : ℤ) (i : ℕ) → values ≡ first ∷ others → start ≡ first → length others ≤ i → least ≡ fold int_min start (take i others) → greatest ≡ fold int_max start (take i others) → AreEnds values least greatest
AreEnds-from_folds values others first start least greatest i is same over low high =
    let whole : take i others ≡ others = take_all i others over in
    rw is (folded first others least greatest (rw (whole, same) at low) (rw (whole, same) at high))
