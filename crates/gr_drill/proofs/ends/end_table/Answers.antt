use Rattle.std.proofs.Common.{ap, ◌∙◌}
use Rattle.gr_values.specs.declared.path.Hop.{Hop}
use Rattle.gr_expr.specs.Paths.{hops_table}
use Rattle.gr_expr.proofs.Hops.{hops_table-last}
use Rattle.gr_drill.proofs.ends.end_table.Goals as goal

pub returns-in-Some : goal.returns-in-Some
returns-in-Some c =
    let item = c.in-Some.ensures.item in
    ap (λ (hop : Hop). hop.to) item.1
    ∙ hops_table-last c.args.path.now.table c.as_slice.result.now c.in-Some.hop.now item.3.0
    ∙ ap (hops_table c.args.path.now.table) c.as_slice.ensures
