use Rattle.gr_session.proofs.StepsLemmas.{Runs, steps_left}
use Rattle.gr_session.proofs.solo.step_solo.Given as goal

-- the command has come as far as its last step says
abbrev pub invariant-loop-step : goal.invariant-loop-step
invariant-loop-step l = Runs l.fn.session l.session l.fn.solo l.solo l.fn.item l.step

abbrev pub decreases-loop-step : goal.decreases-loop-step
decreases-loop-step l = steps_left l.session.going
