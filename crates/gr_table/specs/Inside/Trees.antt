-- The map of a tree of either kind.
use Rattle.gr_base.specs.Keys.{KeyMap}
use Rattle.gr_table.specs.declared.key_tree.KeyTree.{KeyTree}
use Rattle.gr_table.specs.declared.key_tree.KeyTree.TheVariants.{Hash, Pat}

-- the map of the keys, however they are kept
abbrev pub map_of : KeyTree → KeyMap
map_of (Hash keys) = keys
map_of (Pat keys) = keys
