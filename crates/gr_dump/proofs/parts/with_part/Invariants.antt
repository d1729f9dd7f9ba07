use Rattle.std.proofs.Common.{◌≡◌, ◌++◌, take}
use Rattle.gr_dump.specs.Dump.{each_from}
use Rattle.gr_dump.specs.Inside.Parts.{part_of}
use Rattle.gr_dump.proofs.parts.with_part.Given as goal

-- the part of the tables so far is written
abbrev pub invariant-loop-n : goal.invariant-loop-n
invariant-loop-n g l = l.text.items ≡ l.fn.text.items ++ each_from (part_of l.schema (g.R.Rows.tables l.rows) l.part) 0 (take l.n l.schema.tables)
