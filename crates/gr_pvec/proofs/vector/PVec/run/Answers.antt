use Rattle.gr_pvec.proofs.Runs.{run_in_time}
use Rattle.gr_pvec.proofs.vector.PVec.run.Goals as goal

pub returns-then-run-most : goal.returns-then-run-most
returns-then-run-most g c =
    run_in_time c.args.self.now c.leaf_from-run.result.now c.args.from c.args.to c.if-run-most.true c.requires.ordered c.leaf_from-run.ensures
