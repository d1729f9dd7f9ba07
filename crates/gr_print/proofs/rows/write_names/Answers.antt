use Rattle.std.proofs.Common.{◌∷◌, [], sym, subst}
use Rattle.json.specs.Token.{begin_array, string}
use Rattle.gr_print.specs.Inside.Legible.{HasText}
use Rattle.gr_print.specs.declared.out_column.OutColumn.{OutColumn}
use Rattle.gr_print.proofs.WrittenLemmas.{values-end, values-more}
use Rattle.gr_values.proofs.Written.{AllByRecursion-at}
use Rattle.gr_print.proofs.rows.write_names.Goals as goal

pub write_text-requires : goal.write_text-requires
write_text-requires c =
    subst HasText (sym c.column-item.is) (AllByRecursion-at HasText c.args.columns.now c.loop-column.column-index c.column-item.result c.requires c.loop-column-test.true)

pub loop-column-preserved : goal.loop-column-preserved
loop-column-preserved c =
    values-more (begin_array ∷ []) (λ (column : OutColumn). string column.name ∷ []) c.args.columns.now c.loop-column.column-index c.column-item.result c.column-item.result c.loop-column-test.true c.column-item.is
    c.loop-column.invariant c.in_ok-write_text.ensures

pub returns : goal.returns
returns c =
    values-end (begin_array ∷ []) (λ (column : OutColumn). string column.name ∷ []) c.args.columns.now c.loop-column.column-index c.loop-column-test.false c.loop-column.invariant c.in_ok-close_array.ensures
