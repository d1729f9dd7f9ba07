-- What a tree holds.
use Rattle.std.specs.Prelude.{◌≡◌, ◌<◌, List, [], Option, Some, None, ⊤}
use Rattle.std.specs.Arc.{arc_value}
use Rattle.std.specs.declared.sync.Arc.{Arc}
use Rattle.gr_key_tree.specs.Pairs.{Pair}
use Rattle.gr_key_tree.specs.Inside.Seen.{Seen}

module _ {Z : Type 0} where
  -- the pairs of a tree, where there is one
  abbrev pub root_pairs : Option (Arc Seen Z) → List Pair
  root_pairs None = []
  root_pairs (Some node) = (arc_value node).pairs

  -- at most 64 levels
  abbrev pub IsRoot : Option (Arc Seen Z) → Type 0
  IsRoot None = ⊤
  IsRoot (Some node) = (arc_value node).height < 64

  -- the same node, to be shared
  abbrev pub IsShared : Option Seen → Option (Arc Seen Z) → Type 0
  IsShared None None = ⊤
  IsShared (Some node) (Some shared) = arc_value shared ≡ node
  IsShared None (Some shared) = ⊥
  IsShared (Some node) None = ⊥
