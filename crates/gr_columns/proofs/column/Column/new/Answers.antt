use Rattle.gr_columns.proofs.CellKinds.{new_kept}
use Rattle.gr_columns.proofs.column.Column.new.Goals as goal

pub invariant_of-result : goal.invariant_of-result
invariant_of-result c = new_kept c.args.shape c.in_ok-kept.kept c.requires c.in_ok-kept.ensures
