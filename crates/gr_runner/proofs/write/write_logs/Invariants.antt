use Rattle.std.proofs.Common.{◌++◌, drop}
use Rattle.gr_runner.specs.Run.{texts_of}
use Rattle.gr_runner.proofs.Writing.{IsWriting}
use Rattle.gr_runner.proofs.write.write_logs.Given as goal

abbrev pub invariant-loop-log : goal.invariant-loop-log
invariant-loop-log g l = IsWriting (g.K.Sink.taken l.fn.sink) (g.K.Sink.taken l.sink)
    (texts_of l.logs) (l.held.items ++ texts_of (drop l.log-index l.logs))
