use Rattle.std.proofs.Common.{refl, subst, sym, ◌∙◌}
use Rattle.std.specs.List.{AllByRecursion}
use Rattle.gr_db.specs.Db.{Db}
use Rattle.gr_print.specs.Fits.{IsPrintable}
use Rattle.gr_dump.proofs.ColumnLemmas.{printable-append}
use Rattle.gr_dump.proofs.loads.with_keyed_load.Goals as goal

pub with_load-requires : goal.with_load-requires
with_load-requires g c =
    let tables = g.R.Rows.tables c.args.rows.now in
    let db : Db = record { schema = c.args.schema.now; tables = tables } in
    subst (AllByRecursion (IsPrintable tables)) (sym (c.as_slice.ensures.value ∙ c.in_ok-append.ensures.items))
    (printable-append tables c.in_ok-shown.shown.items c.args.columns.items (c.in_ok-shown.ensures.fit db refl c.requires.fits) c.requires.printable)
