-- How many leaves a node has at most.
use Rattle.std.proofs.Common.{◌≤◌, ◌+◌, ℕ, map, length, arith, subst, sym}
use Rattle.std.proofs.lemmas.List.{length-map}
use Rattle.std.specs.Arc.{arc_value}
use Rattle.gr_pvec.specs.declared.node.Shape.{Shape}
use Rattle.gr_pvec.specs.declared.node.Shape.TheVariants.{Leaves, Nodes}
use Rattle.gr_pvec.specs.Inside.Packed.{span}
use Rattle.gr_pvec.specs.Inside.Parts.{shape_leaves, IsNode}
use Rattle.gr_pvec.proofs.Parts.{parts_few}

pub node_few : {X : Type 0} (level : ℕ) (shape : Shape X) → IsNode level shape → length (shape_leaves shape) ≤ span (level + 1)
node_few level (Leaves leaves) node =
    let lowest = node.parts.lowest in
    let few = node.parts.few in
    let size = length-map leaves.items arc_value in
    subst (λ l. length (map arc_value leaves.items) ≤ span (l + 1)) (sym lowest) (omega (arith, few, size))
node_few level (Nodes nodes) node = parts_few level (map arc_value nodes.items) node.parts
