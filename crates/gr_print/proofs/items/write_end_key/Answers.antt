use Rattle.std.proofs.Common.{sym, subst}
use Rattle.std.specs.Prelude.{IfSome}
use Rattle.gr_print.proofs.LegibleLemmas.{key-legible}
use Rattle.gr_values.specs.Shown.{IsKeyText}
use Rattle.gr_print.proofs.items.write_end_key.Goals as goal

pub write_key-requires : goal.write_key-requires
write_key-requires g c =
    subst (λ key. IfSome key IsKeyText) (sym c.end_key.ensures) (key-legible (g.R.Rows.tables c.args.rows.now) c.args.path.now c.args.end c.requires.fits c.requires.key)
