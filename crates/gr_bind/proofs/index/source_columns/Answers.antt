use Rattle.gr_bind.proofs.Rows.{sources_more}
use Rattle.gr_bind.specs.Columns.{source_column}
use Rattle.gr_bind.proofs.index.source_columns.Goals as goal

pub loop-source-preserved : goal.loop-source-preserved
loop-source-preserved c =
    sources_more (source_column c.args.schema.now c.args.table c.args.weight c.args.tokenizer) c.args.sources.now c.loop-source.source-index _ c.source_column-column.result c.loop-source.columns c.in_ok-items_of.field-0 c.append.new.self
    c.loop-source-test.true c.source_column-column.ensures c.in_ok-items_of.ensures c.loop-source.invariant c.in_ok-append.ensures
