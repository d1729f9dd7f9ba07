use Rattle.std.proofs.Common.{sym, ap, subst}
use Rattle.gr_values.specs.Fits.{IsCellOf}
use Rattle.gr_columns.specs.Inside.Kept.{IsKeptOf}
use Rattle.gr_columns.proofs.CellKinds.{takes}
use Rattle.gr_columns.proofs.KeptCells.{kept_set}
use Rattle.gr_columns.proofs.Outcomes.{either}
use Rattle.gr_columns.proofs.column.Column.set_cell.Goals as goal

pub set-requires : goal.set-requires
set-requires c =
    let is : IsCellOf c.self.inside.shape c.args.cell = subst (λ shape. IsCellOf shape c.args.cell) (sym (ap (λ column. column.shape) c.self.view_is)) c.requires in
    takes c.self.inside.shape c.self.inside.kept c.args.cell c.self.invariant is

pub invariant_of-self : goal.invariant_of-self
invariant_of-self c =
    let is : IsCellOf c.self.inside.shape c.args.cell = subst (λ shape. IsCellOf shape c.args.cell) (sym (ap (λ column. column.shape) c.self.view_is)) c.requires in
    either c.set.result c.set.ensures.ok c.set.ensures.err
    (λ sets. kept_set c.self.inside.shape c.self.inside.kept c.set.new.self c.args.id.0 c.args.cell c.self.invariant is sets)
    (λ same. subst (IsKeptOf c.self.inside.shape) (sym same) c.self.invariant)
