use Rattle.std.proofs.Common.{◌≡◌, map, vec_capacity}
use Rattle.std.specs.Vec.Iter.{into_iter_items}
use Rattle.gr_runner.proofs.Running.{HasRun}
use Rattle.gr_runner.proofs.serial.run_phases.Given as goal

abbrev pub invariant-loop-sources : goal.invariant-loop-sources
invariant-loop-sources g l = record {
  limits : l.limits ≡ l.solo.limits;
  ran : HasRun g.S.Source.told l.limits (map (λ sources. sources.items) l.fn.phases.items) (map (λ sources. sources.items) l.yielded) (map (λ sources. sources.items) (into_iter_items l.sources-iterator))
      l.phase l.solo.journal l.logs.items (g.K.Sink.taken l.fn.sink) (g.K.Sink.taken l.sink) (vec_capacity l.logs);
}
