use Rattle.std.proofs.Common.{length}
use Rattle.gr_runner.proofs.Writing.{IsWriting}
use Rattle.gr_runner.proofs.write.write_all.Given as goal

abbrev pub invariant-loop-rest : goal.invariant-loop-rest
invariant-loop-rest g l = IsWriting (g.K.Sink.taken l.fn.sink) (g.K.Sink.taken l.sink) l.text l.rest

abbrev pub decreases-loop-rest : goal.decreases-loop-rest
decreases-loop-rest g l = length l.rest
