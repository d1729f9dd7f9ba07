use Rattle.gr_base.specs.Fault.{fault_named}
use Rattle.gr_base.specs.declared.fault.FaultKind.TheVariants.{NoSuchColumn}
use Rattle.gr_drill.specs.Drilldowns.{path_at}
use Rattle.gr_drill.proofs.FittingLemmas.{path-found, path_at-fits}
use Rattle.gr_drill.proofs.items.item_named.Goals as goal

pub returns-in_ok-path_at-in-None-clause-fit : goal.returns-in_ok-path_at-in-None-clause-fit
returns-in_ok-path_at-in-None-clause-fit c =
    let schema = c.args.schema.now in
    let name = c.args.name.now in
    path_at-fits schema c.args.to name _ (path-found (path_at schema c.args.to name) (fault_named NoSuchColumn name) _ c.in_ok-path_at-in-None.ensures.exact)
