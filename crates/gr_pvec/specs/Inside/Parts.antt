-- What the parts of a vector hold, as lists, and what is true of them.
use Rattle.std.specs.Prelude.{◌≡◌, ◌<◌, ◌≤◌, ◌+◌, ◌^◌, ℕ, List, [], map, length, Option, Some, None}
use Rattle.std.specs.Arc.{arc_value}
use Rattle.std.specs.declared.sync.Arc.{Arc}
use Rattle.gr_pvec.specs.declared.leaf.TheConstants.{ROOM}
use Rattle.gr_pvec.specs.declared.node.TheConstants.{MOST_LEVELS}
use Rattle.gr_pvec.specs.declared.node.Shape.{Shape}
use Rattle.gr_pvec.specs.declared.node.Shape.TheVariants.{Leaves, Nodes}
use Rattle.gr_pvec.specs.Inside.Packed.{elements, AreFull, AreParts, leaves_of}

-- leaves stand below a node of level 0 alone: one at least and at most as many as there is room for
pub record AreLowest (level count : ℕ) : Type 0 where
  pub lowest : level ≡ 0
  pub given : 0 < count
  pub few : count ≤ ROOM

module _ {X : Type 0} where
  -- the leaves of a node, in order
  abbrev pub shape_leaves : Shape X → List (List X)
  shape_leaves (Leaves leaves) = map arc_value leaves.items
  shape_leaves (Nodes nodes) = leaves_of (map arc_value nodes.items)

  -- the parts of a node of this level
  abbrev pub HasParts : ℕ → Shape X → Type 0
  HasParts level (Leaves leaves) = AreLowest level (length leaves.items)
  HasParts level (Nodes nodes) = AreParts level (map arc_value nodes.items)

  -- a node has the parts of its level, and is not too high
  pub record IsNode (level : ℕ) (shape : Shape X) : Type 0 where
    pub low : level + 2 ≤ MOST_LEVELS
    pub parts : HasParts level shape

module _ {X Z : Type 0} where
  -- the leaves of the tree, where there is one
  abbrev pub full_leaves : Option (Arc (List (List X) × ℕ) Z) → List (List X)
  full_leaves None = []
  full_leaves (Some node) = (arc_value node).0

  -- the elements of the tree, where there is one
  abbrev pub full_items : Option (Arc (List (List X) × ℕ) Z) → List X
  full_items full = elements (full_leaves full)

  -- the elements of the leaf that is being filled, where there is one
  abbrev pub tail_items : Option (Arc (List X) Z) → List X
  tail_items None = []
  tail_items (Some leaf) = arc_value leaf

  -- the count of elements before the tail and the count of all are told beside the parts, each leaf of the tree is full, and the tail is one leaf
  pub record IsVector (before len : ℕ) (full : Option (Arc (List (List X) × ℕ) Z)) (tail : Option (Arc (List X) Z)) : Type 0 where
    pub filled : AreFull ROOM (full_leaves full)
    pub counted : before ≡ length (full_items full)
    pub summed : len ≡ before + length (tail_items tail)
    pub fits : length (tail_items tail) ≤ ROOM
    pub short : len ≤ 2 ^ 63
