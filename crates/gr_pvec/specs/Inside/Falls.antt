-- The nodes below a node are on lower levels.
use Rattle.std.specs.Prelude.{◌≡◌, ◌≤◌, ◌+◌, ℕ, List, [], ◌∷◌, map}
use Rattle.std.specs.List.{AllByRecursion}
use Rattle.std.specs.Arc.{arc_value}
use Rattle.std.specs.declared.sync.Arc.{Arc}
use Rattle.std.proofs.Common.{arith, max}
use denote.Param.Weighed.{most}
use Rattle.gr_pvec.specs.declared.node.Node.TheInside.{Inside}
use Rattle.gr_pvec.specs.declared.node.Shape.{Shape}
use Rattle.gr_pvec.specs.declared.node.Shape.TheVariants.{Leaves, Nodes}
use Rattle.gr_pvec.specs.declared.node.Node.TheDeep.{deep-Shape, deep-Node}
use Rattle.gr_pvec.specs.Inside.Parts.{IsNode}

most_below : {V Z : Type 0} (weight : Arc (V × ℕ) Z → ℕ) (level : ℕ) (nodes : List (Arc (V × ℕ) Z)) → ((node : Arc (V × ℕ) Z) → (arc_value node).1 + 1 ≡ level → weight node ≤ level) → AllByRecursion (λ (node : V × ℕ). node.1 + 1 ≡ level) (map arc_value nodes) → most weight nodes ≤ level
most_below weight level [] within all = omega arith
most_below weight level (node ∷ nodes) within all = let one = within node all.0 in let rest = most_below weight level nodes within all.1 in omega (arith, one, rest)

within_most : {V Z : Type 0} (weight : Arc (V × ℕ) Z → ℕ) (level : ℕ) (nodes : List (Arc (V × ℕ) Z)) → AllByRecursion (λ (node : V × ℕ). node.1 + 1 ≡ level) (map arc_value nodes) → ((node : Arc (V × ℕ) Z) → (arc_value node).1 + 1 ≡ level → weight node ≤ level) → max (most weight nodes) 0 ≤ level
within_most weight level nodes all within = let below = most_below weight level nodes within all in omega (arith, below)

shapes_fall : {X : Type 0} (level : ℕ) (shape : Shape X) → IsNode level shape → deep-Shape X shape ≤ level
shapes_fall level (Leaves leaves) node = omega arith
shapes_fall level (Nodes nodes) node = within_most _ level nodes.items node.parts.below (λ a e. omega (arith, e))

pub levels_fall : {X : Type 0} (node : Inside X) → IsNode node.level node.shape → deep-Node X node ≤ node.level
levels_fall node is = let below = shapes_fall node.level node.shape is in omega (arith, below)
