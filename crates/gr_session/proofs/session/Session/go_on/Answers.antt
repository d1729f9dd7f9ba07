use Rattle.gr_session.specs.Inside.Kept.{IsWhole, seen}
use Rattle.gr_session.proofs.EndsLemmas.{Proceeds-closes}
use Rattle.gr_session.proofs.session.Session.go_on.Goals as goal

pub returns-in-Ok-None : goal.returns-in-Ok-None
returns-in-Ok-None c =
    let whole : IsWhole c.args.command c.next.new.self = rw c.in-Ok-None.field-0-is at c.in-Ok-None.ensures in
    Proceeds-closes c.args.self.now c.finish.new.self (seen c.args.command) c.from-from.result c.reached-mark.result c.next.new.self.answer c.finish.result
    c.finish.ensures c.requires.running c.from-from.ensures c.reached-mark.ensures c.requires.between.from c.requires.between.read whole.all whole.answer
