use Rattle.std.proofs.Common.{true, refl, subst, sym}
use Rattle.std.specs.List.{AllByRecursion}
use Rattle.gr_db.specs.Db.{Db}
use Rattle.gr_dump.specs.Inside.Begun.{is_kept}
use Rattle.gr_print.specs.Fits.{IsPrintable}
use Rattle.gr_dump.proofs.ColumnLemmas.{printable-kept}
use Rattle.gr_dump.proofs.loads.with_reference_load.Goals as goal

pub with_keyed_load-requires-clause-printable : goal.with_keyed_load-requires-clause-printable
with_keyed_load-requires-clause-printable g c =
    let tables = g.R.Rows.tables c.args.rows.now in
    let db : Db = record { schema = c.args.schema.now; tables = tables } in
    subst (AllByRecursion (IsPrintable tables)) (sym c.in_ok-columns.ensures)
    (printable-kept tables (is_kept true) c.in_ok-data_columns.field-0.items (c.in_ok-data_columns.ensures.fit db refl c.requires.fits))
