-- Each child is lower than its node.
use Rattle.std.specs.Prelude.{ℕ, ◌≤◌, ◌+◌, ◌*◌, max, List, [], ◌∷◌}
use Rattle.std.proofs.Common.{arith}
use Rattle.std.specs.declared.cmp.Ordering.{Ordering}
use denote.Param.Weighed.{most}
use Rattle.gr_key_tree.specs.declared.key_order.KeyOrder.{Ghosts}
use Rattle.gr_key_tree.specs.declared.node.Shape.{Shape}
use Rattle.gr_key_tree.specs.declared.node.Shape.TheVariants.{Leaf, Inner}
use Rattle.gr_key_tree.specs.declared.child.Child.TheDeep.{deep-Shape}
use Rattle.gr_key_tree.specs.Inside.Parts.{IsNode, AreChildren, seen}
use Rattle.gr_key_tree.specs.Inside.Seen.{Part}

most_le-height : (height : ℕ) (children : List Part) → AreChildren height children → most (λ (part : Part). (2 * part.node.height + 1) + 1) children ≤ 2 * height
unfolding AreChildren
most_le-height height [] each = omega arith
most_le-height height (child ∷ children) each = let level = each.0.level in let rest = most_le-height height children each.1 in omega arith

pub depth_le-height : (K : Type 0) (f : Ghosts K) (cmp : List ℕ → List ℕ → Ordering) (shape : Shape K) → IsNode cmp shape → max (deep-Shape K f shape) 0 ≤ 2 * (seen shape).height
depth_le-height K f cmp (Leaf items) node = omega arith
depth_le-height K f cmp (Inner height children) node = let most = most_le-height height children.items node.each in omega arith
