-- The reply of one command, and the two ways in which no memory was found.
use Rattle.std.proofs.Common.{[], ◌∷◌, sym, ◌∙◌}
use Rattle.gr_runner.proofs.Progressing.{advances_one, runs_at, runs_one_starved, stops_here, stops_one}
use Rattle.gr_runner.proofs.commands.run_command.Goals as goal

pub returns-in_err-reserve-clause-runs : goal.returns-in_err-reserve-clause-runs
returns-in_err-reserve-clause-runs c =
    runs_one_starved c.args.session.now c.args.session.now c.args.solo.now.journal c.args.solo.now.journal c.args.item c.args.done.now.items c.reserve.new.self.items c.from_residual.result c.from_residual.ensures.0
    (rw c.reserve.ensures.items (stops_here c.args.session.now c.args.solo.now.journal (c.args.item ∷ []) c.args.done.now.items c.requires.ready))

pub returns-then-ended-clause-runs : goal.returns-then-ended-clause-runs
returns-then-ended-clause-runs c =
    rw (c.push_reserved.ensures.items, c.reserve.ensures.items)
    (stops_one c.args.session.now c.step_solo-reply.new.session c.args.solo.now.journal c.step_solo-reply.new.solo.journal c.args.item c.step_solo-reply.result c.args.done.now.items c.requires.ready (runs_at c.args.session.now c.step_solo-reply.new.session c.args.solo.now c.step_solo-reply.new.solo c.args.item c.step_solo-reply.result c.requires.limits c.step_solo-reply.ensures) (sym c.ended.ensures ∙ c.if-ended.true))

pub returns-clause-runs : goal.returns-clause-runs
returns-clause-runs c =
    rw (c.push_reserved.ensures.items, c.reserve.ensures.items)
    (advances_one c.args.session.now c.step_solo-reply.new.session c.args.solo.now.journal c.step_solo-reply.new.solo.journal c.args.item c.step_solo-reply.result c.args.done.now.items c.requires.ready (runs_at c.args.session.now c.step_solo-reply.new.session c.args.solo.now c.step_solo-reply.new.solo c.args.item c.step_solo-reply.result c.requires.limits c.step_solo-reply.ensures) (sym c.ended.ensures ∙ c.if-ended.false))
