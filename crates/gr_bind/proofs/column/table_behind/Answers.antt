use Rattle.std.proofs.Common.{ap, ◌∙◌}
use Rattle.gr_bind.proofs.Rows.{table_behind-last}
use Rattle.gr_bind.specs.Columns.{table_behind}
use Rattle.gr_values.specs.declared.path.Hop.{Hop}
use Rattle.gr_bind.proofs.column.table_behind.Goals as goal

pub returns-in-Some : goal.returns-in-Some
returns-in-Some c =
    let item = c.in-Some.ensures.item in
    ap (λ (hop : Hop). hop.to) item.1
    ∙ table_behind-last c.args.path.now.table c.as_slice.result.now c.in-Some.hop.now item.3.0
    ∙ ap (table_behind c.args.path.now.table) c.as_slice.ensures
