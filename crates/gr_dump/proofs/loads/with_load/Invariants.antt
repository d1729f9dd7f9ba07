use Rattle.std.proofs.Common.{◌≡◌, ◌++◌, false, take}
use Rattle.gr_dump.specs.Inside.Begun.{is_later, led}
use Rattle.gr_dump.specs.Loads.{rows_from}
use Rattle.gr_expr.specs.Tables.{records_of}
use Rattle.gr_dump.proofs.loads.with_load.Given as goal

-- the rows of the records so far are written, and whether there is one is known
abbrev pub invariant-loop-n : goal.invariant-loop-n
invariant-loop-n g l = record {
  later : l.later ≡ is_later false (rows_from (g.R.Rows.tables l.rows) l.columns 1 (take l.n (records_of (g.R.Rows.tables l.rows) l.table)));
  text : l.text.items ≡ l.fn.text.items ++ led l.home l.columns false (rows_from (g.R.Rows.tables l.rows) l.columns 1 (take l.n (records_of (g.R.Rows.tables l.rows) l.table)));
}
