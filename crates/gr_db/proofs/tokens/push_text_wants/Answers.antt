use Rattle.gr_base.specs.declared.numbers.ColumnNo.{ColumnNo}
use Rattle.gr_base.specs.declared.numbers.TableNo.{TableNo}
use Rattle.gr_db.specs.Wants.{index_wants}
use Rattle.gr_schema.specs.Index.{is_on}
use Rattle.gr_db.proofs.WantsLemmas.{passed-more}
use Rattle.gr_db.proofs.tokens.push_text_wants.Goals as goal

pub loop-index-preserved : goal.loop-index-preserved
loop-index-preserved c =
    let default : TableNo × ColumnNo = (record { 0 = 0 }, record { 0 = 0 }) in
    passed-more (index_wants c.args.schema.now c.args.text.now) (is_on c.args.schema.now c.args.table c.args.field) c.args.wants.now.items c.loop-index.wants.items _ c.indexes-index-items.result.now c.loop-index.index-index default
    c.loop-index-test.true c.loop-index.invariant c.in_ok-push_wants_on.ensures
