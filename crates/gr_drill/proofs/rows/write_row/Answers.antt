use Rattle.std.proofs.Common.{◌∷◌, [], sym, subst}
use Rattle.json.specs.Token.{begin_array}
use Rattle.gr_drill.specs.Fits.{IsShown}
use Rattle.gr_drill.specs.Inside.Tokens.{item_tokens}
use Rattle.gr_drill.specs.declared.drilldown.GroupColumn.{GroupColumn}
use Rattle.gr_print.proofs.WrittenLemmas.{values-end, values-more}
use Rattle.gr_values.proofs.Written.{AllByRecursion-at}
use Rattle.gr_drill.proofs.rows.write_row.Goals as goal

pub write_item-requires-clause-fits : goal.write_item-requires-clause-fits
write_item-requires-clause-fits g c =
    let tables = g.R.Rows.tables c.args.rows.now in
    let fits : IsShown tables c.column-item.result =
    subst (IsShown tables) (sym c.column-item.is) (AllByRecursion-at (IsShown tables) c.args.columns.now c.loop-column.column-index c.column-item.result c.requires.columns c.loop-column-test.true) in
    fits.item

pub loop-column-preserved : goal.loop-column-preserved
loop-column-preserved g c =
    values-more (begin_array ∷ []) (λ (column : GroupColumn). item_tokens (g.R.Rows.tables c.args.rows.now) c.args.of c.args.group.now column.item) c.args.columns.now c.loop-column.column-index c.column-item.result c.column-item.result
    c.loop-column-test.true c.column-item.is c.loop-column.invariant c.in_ok-write_item.ensures

pub returns : goal.returns
returns g c =
    values-end (begin_array ∷ []) (λ (column : GroupColumn). item_tokens (g.R.Rows.tables c.args.rows.now) c.args.of c.args.group.now column.item) c.args.columns.now c.loop-column.column-index
    c.loop-column-test.false c.loop-column.invariant c.in_ok-close_array.ensures
