use Rattle.gr_base.specs.Fault.{fault_named}
use Rattle.gr_base.specs.declared.fault.FaultKind.TheVariants.{NoSuchColumn}
use Rattle.gr_drill.proofs.FittingLemmas.{columns-fit, path-fits, path-found}
use Rattle.gr_schema.specs.Paths.{path_of}
use Rattle.gr_drill.proofs.drilldown.drilldown_of.Goals as goal

pub returns-clause-fit : goal.returns-clause-fit
returns-clause-fit c = λ db same fits.
    let schema = c.args.schema.now in
    let text = c.as_bytes.result.now in
    let found = path-found (path_of schema c.args.table text) (fault_named NoSuchColumn text) c.in_ok-key.key c.in_ok-key.ensures in
    record {
      key = path-fits schema c.args.table text c.in_ok-key.key found db same fits;
      columns = columns-fit schema db same fits c.in_ok-columns.columns c.in_ok-columns.ensures.fit;
    }
