use Rattle.std.proofs.Common.{subst}
use Rattle.gr_session.specs.declared.session.Step.{Step}
use Rattle.gr_session.proofs.StepsLemmas.{Asking, Asking-valid, Runs, Runs-begins, Runs-goes_on, steps_left-fewer}
use Rattle.gr_session.proofs.solo.step_solo.Goals as goal

pub loop-step-init : goal.loop-step-init
loop-step-init c =
    Runs-begins c.args.session.now c.begin-step.new.self c.args.solo.now c.args.item c.begin-step.result c.requires.limits (rw (c.deref.ensures, c.pin.ensures) at c.journal.ensures.accepted) (rw c.pin-2.ensures at c.begin-step.ensures)

pub publish-answer-requires-clause-valid : goal.publish-answer-requires-clause-valid
publish-answer-requires-clause-valid c =
    let before = c.args.session.now in
    let old = c.args.solo.now in
    let asking : Asking before c.loop-step.session old c.loop-step.solo c.args.item c.in-Publish.entry =
    subst (λ (step : Step). Runs before c.loop-step.session old c.loop-step.solo c.args.item step) c.in-Publish.is c.loop-step.invariant in
    Asking-valid before c.loop-step.session old c.loop-step.solo c.args.item c.in-Publish.entry asking

pub loop-step-smaller : goal.loop-step-smaller
loop-step-smaller c =
    let before = c.args.session.now in
    let old = c.args.solo.now in
    let asking : Asking before c.loop-step.session old c.loop-step.solo c.args.item c.in-Publish.entry =
    subst (λ (step : Step). Runs before c.loop-step.session old c.loop-step.solo c.args.item step) c.in-Publish.is c.loop-step.invariant in
    steps_left-fewer before c.loop-step.session c.answered-step.new.self old c.loop-step.solo c.args.item c.in-Publish.entry c.publish-answer.result c.answered-step.result asking c.answered-step.ensures

pub loop-step-preserved : goal.loop-step-preserved
loop-step-preserved c =
    let before = c.args.session.now in
    let old = c.args.solo.now in
    let asking : Asking before c.loop-step.session old c.loop-step.solo c.args.item c.in-Publish.entry =
    subst (λ (step : Step). Runs before c.loop-step.session old c.loop-step.solo c.args.item step) c.in-Publish.is c.loop-step.invariant in
    Runs-goes_on before c.loop-step.session c.answered-step.new.self old c.loop-step.solo c.publish-answer.new.self c.args.item c.in-Publish.entry c.publish-answer.result c.answered-step.result
    c.requires.limits asking c.publish-answer.ensures (rw (c.deref-in-Publish.ensures, c.pin-in-Publish.ensures) at c.journal-in-Publish.ensures.accepted) c.answered-step.ensures
