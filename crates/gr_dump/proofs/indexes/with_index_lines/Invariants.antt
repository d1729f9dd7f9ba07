use Rattle.std.proofs.Common.{◌≡◌, ◌++◌, take}
use Rattle.std.specs.List.{flat_map}
use Rattle.gr_dump.specs.Dump.{index_line}
use Rattle.gr_dump.proofs.indexes.with_index_lines.Given as goal

-- the lines of the index columns so far are written
abbrev pub invariant-loop-index : goal.invariant-loop-index
invariant-loop-index l = l.text.items ≡ l.fn.text.items ++ flat_map (index_line l.schema) (take l.index-index l.index-items)
