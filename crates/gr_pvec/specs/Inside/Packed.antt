-- Lists of pieces that stand for one list, and how many leaves stand below each part of a node.
use Rattle.std.specs.Prelude.{◌≡◌, ◌<◌, ◌≤◌, ◌+◌, ◌*◌, ◌^◌, ℕ, List, [], ◌∷◌, length, slice_get, slice_set, unwrap_or}
use Rattle.std.specs.List.{flat_map, AllByRecursion}
use Rattle.gr_pvec.specs.declared.leaf.TheConstants.{BITS, ROOM}

-- how many leaves stand below each part of a node of this level
abbrev pub span : ℕ → ℕ
span level = 2 ^ (BITS * level)

module _ {X Y : Type 0} (pieces : Y → List X) (room : ℕ) where
  -- each piece has elements, at most as many as there is room for, and just so many where another piece follows
  abbrev pub ArePacked : List Y → Type 0
  ArePacked [] = Unit {0}
  ArePacked (y ∷ ys) = (0 < length (pieces y)) × (length (pieces y) ≤ room) × (0 < length ys → length (pieces y) ≡ room) × ArePacked ys

module _ {X : Type 0} where
  -- each leaf has this many elements
  abbrev pub AreFull : ℕ → List (List X) → Type 0
  AreFull room [] = Unit {0}
  AreFull room (leaf ∷ leaves) = (length leaf ≡ room) × AreFull room leaves

  -- the elements of some leaves, in order
  abbrev pub elements : List (List X) → List X
  elements leaves = flat_map (λ leaf. leaf) leaves

  -- the elements of one leaf
  abbrev pub leaf_at : List (List X) → ℕ → List X
  leaf_at leaves k = unwrap_or (slice_get leaves k) []

  -- the leaves with another element at place j of leaf k
  abbrev pub changed_at : List (List X) → ℕ → ℕ → X → List (List X)
  changed_at leaves k j x = slice_set leaves k (slice_set (leaf_at leaves k) j x)

  -- the leaves of some nodes, in order; a node is its leaves and its level
  abbrev pub leaves_of : List (List (List X) × ℕ) → List (List X)
  leaves_of nodes = flat_map (λ node. node.0) nodes

  -- nodes that are the parts of a node of this level: one at least and at most as many as there is room for, one level below, with a span of leaves each but for the last
  pub record AreParts (level : ℕ) (nodes : List (List (List X) × ℕ)) : Type 0 where
    pub given : 0 < length nodes
    pub few : length nodes ≤ ROOM
    pub above : 0 < level
    pub below : AllByRecursion (λ (node : List (List X) × ℕ). node.1 + 1 ≡ level) nodes
    pub packed : ArePacked (λ (node : List (List X) × ℕ). node.0) (span level) nodes
