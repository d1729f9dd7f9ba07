use Rattle.std.proofs.Common.{◌*◌, ◌+◌, is_some}
use Rattle.gr_columns.specs.declared.places.TheConstants.{BLOCK_CELLS}
use Rattle.gr_expr.specs.Tables.{record_in, records_of}
use Rattle.gr_plan.proofs.PlaneLemmas.{AreBits}
use Rattle.gr_plan.proofs.leaves.alive.Given as goal

-- the records so far
abbrev pub invariant-loop-place : goal.invariant-loop-place
invariant-loop-place g l = AreBits (λ place. is_some (record_in (records_of (g.R.Rows.tables l.rows) l.table) (BLOCK_CELLS * l.block + place))) l.mask l.place
