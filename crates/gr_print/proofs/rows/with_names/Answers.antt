use Rattle.gr_print.proofs.RowsLemmas.{print-names, written-after}
use Rattle.gr_print.proofs.rows.with_names.Goals as goal

pub returns : goal.returns
returns c =
    written-after _ _ _ c.new-writer.ensures.before c.new-writer.ensures.tokens c.in_ok-write_names.ensures c.into_inner.ensures.items
    (print-names c.args.columns.now)
