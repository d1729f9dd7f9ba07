use Rattle.std.proofs.Common.{◌∙◌}
use Rattle.gr_runner.proofs.Running.{added_from, ends_cut, ends_whole}
use Rattle.gr_runner.proofs.serial.run_and_write.Goals as goal

pub returns-in-Ok-clause-ends : goal.returns-in-Ok-clause-ends
returns-in-Ok-clause-ends g c =
    ends_whole _ _ _ _ _ _ _ _ _ _ _ c.run_phase.ensures.runs (added_from _ _ _ _ (c.deref.ensures.value ∙ c.run_phase.ensures.runs.logs) (c.len-before.ensures ∙ c.args.logs.now.ok.0))
    _ c.in-Ok.ensures c.status_of.ensures

pub returns-in-Err-clause-ends : goal.returns-in-Err-clause-ends
returns-in-Err-clause-ends g c =
    ends_cut _ _ _ _ _ _ _ _ _ _ _ c.run_phase.ensures.runs (added_from _ _ _ _ (c.deref.ensures.value ∙ c.run_phase.ensures.runs.logs) (c.len-before.ensures ∙ c.args.logs.now.ok.0))
    c.in-Err.ensures
