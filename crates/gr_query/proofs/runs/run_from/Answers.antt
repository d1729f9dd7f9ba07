use Rattle.gr_query.proofs.Running.{AreRead-none, AreRead-push, AreRead-text, AreRead-rest}
use Rattle.gr_query.proofs.runs.run_from.Goals as goal

pub characters-init : goal.characters-init
characters-init c = rw c.new-text.ensures.items (AreRead-none c.args.bytes.now)

pub characters-preserved : goal.characters-preserved
characters-preserved c =
    rw (c.in_ok-push.ensures.items, c.split_at.ensures.back)
    (AreRead-push c.characters.invariant c.in-Some.ensures.some c.in-Some.ensures.within c.in-Some.ensures.further c.in-Some.ensures.star c.in-Some.ensures.text)

pub returns-clause-text : goal.returns-clause-text
returns-clause-text c = AreRead-text c.characters.invariant c.in_default.ensures.stop

pub returns-clause-rest : goal.returns-clause-rest
returns-clause-rest c = AreRead-rest c.characters.invariant c.in_default.ensures.stop
