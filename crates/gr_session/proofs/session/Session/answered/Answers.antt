use Rattle.gr_session.specs.Inside.Kept.{seen}
use Rattle.gr_session.proofs.EndsLemmas.{GoesOn-published, GoesOn-refused}
use Rattle.gr_session.proofs.session.Session.answered.Goals as goal

pub returns-in-Published : goal.returns-in-Published
returns-in-Published c =
    GoesOn-published c.args.self.now c.go_on.new.self (seen c.take_up-command.result) c.args.answer c.in-Published.place c.go_on.result
    c.take_up-command.ensures.was c.in-Published.is (rw (c.take_up-command.ensures.now, c.make.ensures.made) at c.go_on.ensures)

pub returns-in-Refused : goal.returns-in-Refused
returns-in-Refused c =
    GoesOn-refused c.args.self.now c.stop.new.self (seen c.take_up-command.result) c.args.answer c.in-Refused.fault c.in-Refused.mark c.stop.result
    c.take_up-command.ensures.was c.in-Refused.is (rw c.take_up-command.ensures.now at c.stop.ensures)
