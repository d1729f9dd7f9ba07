use Rattle.std.proofs.Common.{◌≡◌, map, take}
use Rattle.gr_drill.specs.Drilldowns.{column_at}
use Rattle.gr_drill.proofs.columns.columns_at.Given as goal

-- the columns so far are made
abbrev pub invariant-loop-column : goal.invariant-loop-column
invariant-loop-column l = l.made.items ≡ map column_at (take l.column-index l.columns)
