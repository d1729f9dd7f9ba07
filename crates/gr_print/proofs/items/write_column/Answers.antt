use Rattle.std.proofs.Common.{ap, sym, subst, ◌∙◌}
use Rattle.std.specs.Option.{option_map}
use Rattle.std.specs.Prelude.{IfSome}
use Rattle.gr_values.specs.View.{shown}
use Rattle.gr_print.specs.Inside.Legible.{IsLegible}
use Rattle.gr_print.proofs.LegibleLemmas.{AreKeysLegible-path, cell-legible}
use Rattle.gr_print.proofs.items.write_column.Goals as goal

pub write_cell-requires-clause-cell : goal.write_cell-requires-clause-cell
write_cell-requires-clause-cell g c =
    subst (λ cell. IfSome cell IsLegible) (sym c.end_cell.ensures ∙ ap (option_map shown) c.in-Some.is)
    (cell-legible (g.R.Rows.tables c.args.rows.now) c.args.path.now c.args.end c.args.column c.requires.fits c.requires.column)

pub write_cell-requires-clause-keys : goal.write_cell-requires-clause-keys
write_cell-requires-clause-keys g c = AreKeysLegible-path (g.R.Rows.tables c.args.rows.now) c.args.path.now c.requires.fits
