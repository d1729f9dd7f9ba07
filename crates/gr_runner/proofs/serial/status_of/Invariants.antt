use Rattle.std.proofs.Common.{◌≡◌, drop}
use Rattle.gr_runner.specs.Run.{first_unfinished}
use Rattle.gr_runner.proofs.serial.status_of.Given as goal

abbrev pub invariant-loop-log : goal.invariant-loop-log
invariant-loop-log l = first_unfinished l.logs ≡ first_unfinished (drop l.log-index l.logs)
