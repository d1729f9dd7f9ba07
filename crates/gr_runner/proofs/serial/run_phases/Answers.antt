use Rattle.std.proofs.Common.{map, ap, sym, ◌∙◌}
use Rattle.std.proofs.lemmas.List.{length-map}
use Rattle.gr_runner.proofs.Running.{completed, ended, has_begun, lists_more, lists_next, lists_none, next_countable, next_entries, next_numbers, next_places, ran_on}
use Rattle.gr_runner.proofs.serial.run_phases.Goals as goal

pub loop-sources-init : goal.loop-sources-init
loop-sources-init g c = record {
  limits = c.requires.limits;
  ran = has_begun _ _ _ _ _ _ _ _ (ap (map (λ sources. sources.items)) c.into_iter-sources-iterator.ensures.into_iter_gives.0) c.requires.no_entries c.requires.no_logs (rw length-map c.requires.phases) c.requires.sources_countable c.requires.sources c.requires.room;
}

pub run_and_write-requires-clause-sources : goal.run_and_write-requires-clause-sources
run_and_write-requires-clause-sources g c = next_numbers _ _ _ _ _ _ _ _ _ _ _ _ _ (lists_next _ _ _ c.in-Some.ensures.steps.0) c.loop-sources.invariant.ran

pub run_and_write-requires-clause-room : goal.run_and_write-requires-clause-room
run_and_write-requires-clause-room g c = next_places _ _ _ _ _ _ _ _ _ _ _ _ _ (lists_next _ _ _ c.in-Some.ensures.steps.0) c.loop-sources.invariant.ran

pub run_and_write-requires-clause-sources_countable : goal.run_and_write-requires-clause-sources_countable
run_and_write-requires-clause-sources_countable g c = next_countable _ _ _ _ _ _ _ _ _ _ _ _ _ (lists_next _ _ _ c.in-Some.ensures.steps.0) c.loop-sources.invariant.ran

pub run_and_write-requires-clause-entries : goal.run_and_write-requires-clause-entries
run_and_write-requires-clause-entries g c = next_entries _ _ _ _ _ _ _ _ _ _ _ _ _ (lists_next _ _ _ c.in-Some.ensures.steps.0) c.loop-sources.invariant.ran

pub loop-sources-preserved : goal.loop-sources-preserved
loop-sources-preserved g c = record {
  limits = cc;
  ran = ran_on _ _ _ _ _ _ _ _ _ _ _ _ _ (lists_next _ _ _ c.in-Some.ensures.steps.0) c.loop-sources.invariant.ran _ _ _ _ _ (lists_more _ _) c.in-Ok.ensures.room c.in-Ok.ensures.ends;
}

pub returns-in_default : goal.returns-in_default
returns-in_default g c =
    ended _ _ _ _ _ _ _ _ _ _ _ _ _ (lists_next _ _ _ c.in-Some.ensures.steps.0) c.loop-sources.invariant.ran _ _ _ _ c.run_and_write.ensures.ends c.in_default.not-Ok

pub returns : goal.returns
returns g c =
    completed _ _ _ _ _ _ _ _ _ _ _ (lists_none _ (sym c.loop-sources.sources-iterator.rest.ok.0 ∙ c.in-None.ensures.steps.0)) c.loop-sources.invariant.ran
