-- The last leaf goes to the tree, and a new one of one element is begun.
use Rattle.std.proofs.Common.{◌≡◌, ◌<◌, ◌≤◌, ◌+◌, ◌-◌, ◌^◌, ◌++◌, ◌∷◌, [], ◌∙◌, ℕ, List, Some, Option, arith, length, length-append, ap, sym, subst}
use Rattle.std.specs.Arc.{arc_value}
use Rattle.std.specs.declared.sync.Arc.{Arc}
use Rattle.gr_pvec.specs.Inside.Packed.{AreFull}
use Rattle.gr_pvec.specs.Inside.Parts.{full_leaves, tail_items, IsVector}
use Rattle.gr_pvec.proofs.Packed.{AreFull-push, length_full}

module _ {X Z : Type 0} where
  pub turned : (before len : ℕ) (full made : Option (Arc (List (List X) × ℕ) Z)) (tail : Option (Arc (List X) Z)) (next : Arc (List X) Z) → IsVector before len full tail → 32 ≤ len - before → len < 2 ^ 63 → full_leaves made ≡ full_leaves full ++ tail_items tail ∷ [] → length (arc_value next) ≡ 1 → IsVector len (len + 1) made (Some next)
  turned before len full made tail next is over short grown one =
      let summed = is.summed in
      let fits = is.fits in
      let size : length (tail_items tail) ≡ 32 = omega (arith, summed, fits, over) in
      let filled : AreFull 32 (full_leaves made) = subst (AreFull 32) (sym grown) (AreFull-push 32 (full_leaves full) (tail_items tail) is.filled size) in
      let before_is = is.counted ∙ length_full 32 (full_leaves full) is.filled in
      let all = length_full 32 (full_leaves made) filled in
      let more = ap length grown ∙ length-append (full_leaves full) (tail_items tail ∷ []) in
      record {
        filled = filled;
        counted = omega (arith, all, more, before_is, summed, size);
        summed = omega (arith, one);
        fits = omega (arith, one);
        short = omega (arith, short);
      }
