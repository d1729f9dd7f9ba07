-- Hits below an id.
use Rattle.std.proofs.Common.{ℕ, ◌<◌, ◌≤◌, List, [], ◌∷◌, ◌++◌, arith}
use Rattle.std.specs.List.{AllByRecursion}
use Rattle.gr_hits.specs.Hits.{Hit}

pub all_below : (hits : List Hit) (low high : ℕ) → low ≤ high → AllByRecursion (λ (hit : Hit). hit.0.0 < low) hits → AllByRecursion (λ (hit : Hit). hit.0.0 < high) hits
all_below [] low high o a = tt
all_below (hit ∷ hits) low high o a = let first : hit.0.0 < low = a.0 in (omega arith, all_below hits low high o a.1)

pub all_below-push : (hits : List Hit) (hit : Hit) (low high : ℕ) → low ≤ high → hit.0.0 < high → AllByRecursion (λ (other : Hit). other.0.0 < low) hits → AllByRecursion (λ (other : Hit). other.0.0 < high) (hits ++ hit ∷ [])
all_below-push [] hit low high o l a = (l, tt)
all_below-push (first ∷ hits) hit low high o l a = let one : first.0.0 < low = a.0 in (omega arith, all_below-push hits hit low high o l a.1)
