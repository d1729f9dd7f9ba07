use Rattle.gr_runner.proofs.Completing.{complete_run}
use Rattle.gr_runner.proofs.serial.run_serial.Goals as goal

pub returns-clause-complete : goal.returns-clause-complete
returns-clause-complete g c = complete_run g.S.Source.told c.args.limits _ _ _ _ c.run_all.ensures
