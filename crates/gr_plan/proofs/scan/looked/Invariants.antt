use Rattle.gr_expr.specs.Tables.{records_of}
use Rattle.gr_plan.proofs.ScanLemmas.{AreSeen}
use Rattle.gr_plan.proofs.scan.looked.Given as goal

-- the records seen so far
abbrev pub invariant-loop-seen : goal.invariant-loop-seen
invariant-loop-seen g l = let tables = g.R.Rows.tables l.rows in AreSeen tables l.condition (records_of tables l.table) l.seen l.hits
