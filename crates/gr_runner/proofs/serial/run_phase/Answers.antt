use Rattle.std.proofs.Common.{◌+◌, ℕ, ap, ◌∙◌}
use Rattle.gr_runner.proofs.Serving.{begun, below_next, served}
use Rattle.gr_runner.proofs.serial.run_phase.Goals as goal

pub loop-source-init : goal.loop-source-init
loop-source-init g c = record {
  limits = c.requires.limits;
  serving = begun _ _ _ _ _ _ _ _ c.into_iter-source-iterator.ensures.into_iter_gives.0 c.requires.entries c.requires.sources_countable c.requires.sources c.requires.room;
}

pub run_session-log-requires-clause-first : goal.run_session-log-requires-clause-first
run_session-log-requires-clause-first g c = below_next _ _ _ (c.len.ensures ∙ c.loop-source.logs.ok.0) c.loop-source.invariant.serving.entries

pub loop-source-preserved : goal.loop-source-preserved
loop-source-preserved g c = record {
  limits = cc;
  serving = served _ _ _ _ _ _ _ _ _ _ _ _ _ _ _ _ _ _ _ c.in-Some.ensures.steps.0 c.in-Ok.ensures.items (ap (λ (count : ℕ). count + 1) (c.len.ensures ∙ c.loop-source.logs.ok.0)) c.in-Ok.ensures.capacity
      c.loop-source.invariant.serving c.run_session-log.ensures.serves;
}
