-- The session's log, where its source was read, and where no memory was found for the session.
use Rattle.std.proofs.Common.{◌≡◌, refl, length, ap, ◌∙◌}
use Rattle.gr_session.specs.Step.{opened_at}
use Rattle.gr_runner.proofs.Reading.{ends_unread, serves}
use Rattle.gr_runner.specs.declared.report.End.TheVariants.{NoMemory}
use Rattle.gr_runner.proofs.commands.run_session.Goals as goal
use Rattle.gr_runner.proofs.commands.run_session.Goals.{in-Ok, in-Err}

pub returns-clause-serves : goal.returns-clause-serves
returns-clause-serves g c =
    let opened : c.len-opened.result ≡ length c.args.solo.now.journal = cc in
    elim c.match-open.branch [
      | in-Ok w ↦ rw (w.solo-is, w.end-is) (
          serves c.args.limits (g.S.Source.told c.args.source) c.args.number c.args.phase c.len-opened.result c.args.solo.now.journal w.run_source-end.new.solo.journal w.run_source-end.new.done.items c.from_vec.result w.run_source-end.result opened (c.from_vec.ensures ∙ ap (λ done. done.items) w.done-is)
          (rw (ap (λ session. session.session) w.in-Ok.ensures) at w.run_source-end.ensures.runs))
      | in-Err w ↦ rw (w.solo-is, w.end-is) (
          serves c.args.limits (g.S.Source.told c.args.source) c.args.number c.args.phase c.len-opened.result c.args.solo.now.journal c.args.solo.now.journal c.new-done.result.items c.from_vec.result NoMemory opened (c.from_vec.ensures ∙ ap (λ done. done.items) w.done-is)
          (ends_unread c.args.limits (g.S.Source.told c.args.source) (opened_at c.args.limits c.args.number.0 (length c.args.solo.now.journal)) c.args.solo.now.journal c.new-done.result.items c.new-done.ensures.items (record { opened = refl; first = c.requires.first })))
    ]
