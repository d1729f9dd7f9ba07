use Rattle.std.proofs.Common.{rules}
use Rattle.std.specs.Int.{w128}
use Rattle.std.proofs.lemmas.Int.{to_z-of_z}
use Rattle.std.proofs.lemmas.Option.{IfSome_then}
use Rattle.gr_plan.proofs.LeafLemmas.{IsWhere-turned}
use Rattle.gr_plan.proofs.leaves.compared.Goals as goal

pub returns-in_ok-number_of-in-None : goal.returns-in_ok-number_of-in-None
returns-in_ok-number_of-in-None g c =
    let number = c.in_ok-number_of-in-None.field-0 in
    IfSome_then c.column_mask-in-None.result c.column_mask-in-None.ensures (λ mask found.
    IsWhere-turned (g.B.Rows.tables c.args.rows.now) c.args.table c.args.block c.args.cmp c.turned.result c.args.left.now c.args.right.now number _ mask c.in_ok-number_of-in-None.ensures c.turned.ensures (to_z-of_z w128 number (search rules)) found)
