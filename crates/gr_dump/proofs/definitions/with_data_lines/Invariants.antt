use Rattle.std.proofs.Common.{◌≡◌, ◌++◌}
use Rattle.std.specs.List.{flat_map}
use Rattle.gr_dump.specs.Dump.{data_line, data_lines}
use Rattle.gr_dump.proofs.definitions.with_data_lines.Given as goal

-- the lines so far and those of the columns that are left are those of the table
abbrev pub invariant-loop-column : goal.invariant-loop-column
invariant-loop-column l = l.text.items ++ flat_map (λ column. data_line l.schema l.home column column.role) l.column-iterator ≡ l.fn.text.items ++ data_lines l.schema l.home
