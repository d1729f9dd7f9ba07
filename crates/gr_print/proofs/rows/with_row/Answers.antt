use Rattle.gr_print.proofs.RowsLemmas.{print-row_tokens, written-after}
use Rattle.gr_print.proofs.rows.with_row.Goals as goal

pub returns : goal.returns
returns g c =
    written-after _ _ _ c.new-writer.ensures.before c.new-writer.ensures.tokens c.in_ok-write_row.ensures c.into_inner.ensures.items
    (print-row_tokens (g.R.Rows.tables c.args.rows.now) c.args.columns.now c.args.hit)
