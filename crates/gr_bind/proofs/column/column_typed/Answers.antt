use Rattle.std.proofs.Common.{ap, sym, subst, ◌∙◌}
use Rattle.std.specs.Prelude.{Option}
use Rattle.gr_base.specs.Fault.{fault_named}
use Rattle.gr_base.specs.declared.fault.FaultKind.TheVariants.{NoSuchColumn}
use Rattle.gr_bind.proofs.Telling.{there}
use Rattle.gr_bind.specs.Columns.{column_by}
use Rattle.gr_bind.specs.Inside.Told.{Tells}
use Rattle.gr_schema.specs.Paths.{path_of}
use Rattle.gr_values.specs.declared.path.Path.{Path}
use Rattle.gr_bind.proofs.column.column_typed.Goals as goal

pub returns-in-Ok : goal.returns-in-Ok
returns-in-Ok c =
    let found = there (path_of c.args.schema.now c.args.table c.as_slice.result.now) (fault_named NoSuchColumn c.as_slice.result.now) c.in-Ok.path (c.resolve.ensures.found c.in-Ok.path c.in-Ok.is) in
    subst (λ (o : Option Path). Tells c.path_columns.result (column_by c.args.schema.now c.args.table c.args.of.now o))
    (sym (ap (path_of c.args.schema.now c.args.table) (sym c.as_slice.ensures) ∙ found))
    c.path_columns.ensures
