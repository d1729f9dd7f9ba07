use Rattle.std.proofs.Common.{◌++◌, drop}
use Rattle.std.specs.List.{flat_map}
use Rattle.gr_runner.proofs.Writing.{IsWriting}
use Rattle.gr_runner.proofs.write.put_done.Given as goal

abbrev pub invariant-loop-reply : goal.invariant-loop-reply
invariant-loop-reply g l = IsWriting (g.K.Sink.taken l.fn.sink) (g.K.Sink.taken l.sink)
    (l.fn.held.items ++ flat_map (λ reply. reply.text) l.done) (l.held.items ++ flat_map (λ reply. reply.text) (drop l.reply-index l.done))
