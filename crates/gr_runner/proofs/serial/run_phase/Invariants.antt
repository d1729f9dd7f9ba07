use Rattle.std.proofs.Common.{◌≡◌, vec_capacity}
use Rattle.std.specs.Vec.Iter.{into_iter_items}
use Rattle.gr_runner.proofs.Serving.{IsServing}
use Rattle.gr_runner.proofs.serial.run_phase.Given as goal

abbrev pub invariant-loop-source : goal.invariant-loop-source
invariant-loop-source g l = record {
  limits : l.limits ≡ l.solo.limits;
  serving : IsServing g.S.Source.told l.limits l.phase l.fn.sources.items l.yielded (into_iter_items l.source-iterator)
      l.fn.solo.journal l.solo.journal l.fn.logs.items l.logs.items (vec_capacity l.fn.logs) (vec_capacity l.logs);
}
