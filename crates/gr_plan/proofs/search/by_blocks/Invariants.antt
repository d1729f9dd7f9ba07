use Rattle.std.proofs.Common.{◌*◌}
use Rattle.gr_expr.specs.Tables.{records_of}
use Rattle.gr_columns.specs.declared.places.TheConstants.{BLOCK_CELLS}
use Rattle.gr_plan.proofs.ScanLemmas.{AreBelow}
use Rattle.gr_plan.proofs.search.by_blocks.Given as goal

-- the hits of the blocks so far
abbrev pub invariant-loop-block : goal.invariant-loop-block
invariant-loop-block g l = let tables = g.B.Rows.tables l.rows in AreBelow tables l.condition (records_of tables l.table) (BLOCK_CELLS * l.block) l.hits
