use Rattle.std.proofs.Common.{◌∷◌, [], sym, subst}
use Rattle.json.specs.Token.{begin_array}
use Rattle.gr_print.specs.Fits.{IsPrintable}
use Rattle.gr_print.specs.Inside.Tokens.{item_tokens}
use Rattle.gr_print.specs.declared.out_column.OutColumn.{OutColumn}
use Rattle.gr_print.proofs.WrittenLemmas.{values-end, values-more}
use Rattle.gr_values.proofs.Written.{AllByRecursion-at}
use Rattle.gr_print.proofs.items.write_row.Goals as goal

pub write_item-requires : goal.write_item-requires
write_item-requires g c =
    let tables = g.R.Rows.tables c.args.rows.now in
    let fits : IsPrintable tables c.column-item.result =
    subst (IsPrintable tables) (sym c.column-item.is) (AllByRecursion-at (IsPrintable tables) c.args.columns.now c.loop-column.column-index c.column-item.result c.requires c.loop-column-test.true) in
    fits.item

pub loop-column-preserved : goal.loop-column-preserved
loop-column-preserved g c =
    values-more (begin_array ∷ []) (λ (column : OutColumn). item_tokens (g.R.Rows.tables c.args.rows.now) c.args.hit column.item) c.args.columns.now c.loop-column.column-index c.column-item.result c.column-item.result
    c.loop-column-test.true c.column-item.is c.loop-column.invariant c.in_ok-write_item.ensures

pub returns : goal.returns
returns g c =
    values-end (begin_array ∷ []) (λ (column : OutColumn). item_tokens (g.R.Rows.tables c.args.rows.now) c.args.hit column.item) c.args.columns.now c.loop-column.column-index
    c.loop-column-test.false c.loop-column.invariant c.in_ok-close_array.ensures
