use Rattle.std.proofs.Common.{◌≡◌, ◌∙◌, None, Option, ap, option_copied, subst, sym}
use Rattle.std.specs.Option.{ok_or}
use Rattle.gr_base.specs.Failure.{Answers}
use Rattle.gr_base.specs.Fault.{fault_named}
use Rattle.gr_base.specs.declared.fault.FaultKind.TheVariants.{NoSuchColumn}
use Rattle.gr_drill.specs.Drilldowns.{path_at}
use Rattle.gr_drill.proofs.FittingLemmas.{path_of-nowhere}
use Rattle.gr_schema.specs.Schema.{table_at}
use Rattle.gr_values.specs.declared.path.Path.{Path}
use Rattle.gr_drill.proofs.items.path_at.Goals as goal

pub returns-in-None-def-clause-exact : goal.returns-in-None-def-clause-exact
returns-in-None-def-clause-exact c =
    let schema = c.args.schema.now in
    let name = c.args.name.now in
    let nowhere : table_at schema c.in-Some.table ≡ None = sym c.def.ensures ∙ ap option_copied c.in-None-def.is in
    let none : path_at schema c.args.to name ≡ None = ap (λ o. path_at schema o name) c.in-Some.is ∙ path_of-nowhere schema c.in-Some.table name nowhere in
    subst (λ (o : Option Path). Answers c.no_such_column.result (ok_or o (fault_named NoSuchColumn name))) (sym none) c.no_such_column.ensures.exact
