use Rattle.gr_dump.proofs.ColumnLemmas.{printable-names}
use Rattle.gr_dump.proofs.loads.with_led_row.Goals as goal

pub with_lead-requires : goal.with_lead-requires
with_lead-requires g c = printable-names (g.R.Rows.tables c.args.rows.now) c.args.columns.now c.requires
