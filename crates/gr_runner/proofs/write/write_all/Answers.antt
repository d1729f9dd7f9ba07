use Rattle.gr_runner.proofs.Writing.{took}
use Rattle.gr_runner.proofs.write.write_all.Goals as goal

pub loop-rest-preserved : goal.loop-rest-preserved
loop-rest-preserved g c = took _ _ _ _ _ _ c.loop-rest.invariant c.in_ok-taken.ensures.bytes c.in_ok-taken.ensures.faults
