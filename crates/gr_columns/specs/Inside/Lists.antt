-- The elements of a list that stands behind a shared count.
use Rattle.std.specs.Prelude.{List, [], Option, Some, None}
use Rattle.std.specs.Arc.{arc_value}
use Rattle.std.specs.declared.sync.Arc.{Arc}

module _ {X Z : Type 0} where
  -- the elements, and none where nothing is kept
  abbrev pub shared_items : Option (Arc (List X) Z) → List X
  shared_items None = []
  shared_items (Some list) = arc_value list
