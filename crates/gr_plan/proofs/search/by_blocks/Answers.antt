use Rattle.std.proofs.Common.{◌≡◌, ◌*◌, ◌+◌, arith, subst, sym}
use Rattle.gr_expr.specs.Tables.{records_of}
use Rattle.gr_columns.specs.declared.places.TheConstants.{BLOCK_CELLS}
use Rattle.gr_plan.proofs.ScanLemmas.{AreBelow, AreBelow-block, AreBelow-later}
use Rattle.gr_plan.proofs.search.by_blocks.Goals as goal

pub push_block-requires-clause-later : goal.push_block-requires-clause-later
push_block-requires-clause-later g c =
    let tables = g.B.Rows.tables c.args.rows.now in
    AreBelow-later tables c.args.condition.now (records_of tables c.args.table) (BLOCK_CELLS * c.loop-block.block) c.loop-block.hits c.loop-block.invariant

pub loop-block-preserved : goal.loop-block-preserved
loop-block-preserved g c =
    let tables = g.B.Rows.tables c.args.rows.now in
    let condition = c.args.condition.now in
    let records = records_of tables c.args.table in
    let first = BLOCK_CELLS * c.loop-block.block in
    let next : first + BLOCK_CELLS ≡ BLOCK_CELLS * (c.loop-block.block + 1) = omega arith in
    subst (λ id. AreBelow tables condition records id c.push_block.new.hits) next
    (subst (AreBelow tables condition records (first + BLOCK_CELLS)) (sym c.in_ok-push_block-in-Some.ensures) (AreBelow-block tables condition records first c.in-Some.scores c.loop-block.hits BLOCK_CELLS c.in-Some.ensures c.loop-block.invariant))
