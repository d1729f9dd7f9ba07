use Rattle.std.proofs.Common.{◌∷◌, [], sym, subst}
use Rattle.json.specs.Token.{begin_array}
use Rattle.std.specs.Prelude.{IsUtf8}
use Rattle.gr_drill.specs.Inside.Tokens.{column_tokens}
use Rattle.gr_drill.specs.declared.drilldown.GroupColumn.{GroupColumn}
use Rattle.gr_print.proofs.WrittenLemmas.{values-end, values-more}
use Rattle.gr_values.proofs.Written.{AllByRecursion-at}
use Rattle.gr_drill.proofs.headings.write_headings.Goals as goal

pub write_heading-requires : goal.write_heading-requires
write_heading-requires c =
    subst (λ (column : GroupColumn). IsUtf8 column.name) (sym c.column-item.is) (AllByRecursion-at (λ (column : GroupColumn). IsUtf8 column.name) c.args.columns.now c.loop-column.column-index c.column-item.result c.requires c.loop-column-test.true)

pub loop-column-preserved : goal.loop-column-preserved
loop-column-preserved c =
    values-more (begin_array ∷ []) (column_tokens c.args.schema.now c.args.of) c.args.columns.now c.loop-column.column-index c.column-item.result c.column-item.result c.loop-column-test.true c.column-item.is
    c.loop-column.invariant c.in_ok-write_heading.ensures

pub returns : goal.returns
returns c =
    values-end (begin_array ∷ []) (column_tokens c.args.schema.now c.args.of) c.args.columns.now c.loop-column.column-index c.loop-column-test.false c.loop-column.invariant c.in_ok-close_array.ensures
