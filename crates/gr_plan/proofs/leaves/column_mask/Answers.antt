use Rattle.std.specs.Int.{w128}
use Rattle.std.proofs.lemmas.Int.{to_z-of_z}
use Rattle.std.proofs.lemmas.Option.{IfSome_then}
use Rattle.gr_plan.proofs.LeafLemmas.{IsWhere-column}
use Rattle.gr_plan.proofs.leaves.column_mask.Goals as goal

pub returns : goal.returns
returns g c =
    IfSome_then c.mask.result c.mask.ensures (λ mask is.
    IsWhere-column (g.B.Rows.tables c.args.rows.now) c.args.table c.args.of.now c.in_ok-column_of.field-0 c.in_ok-column_of.ensures c.args.cmp c.args.number c.requires c.args.block mask _ (to_z-of_z w128 c.args.number c.ranges.number) is)
