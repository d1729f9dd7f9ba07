use Rattle.gr_plan.proofs.MarkLemmas.{marks-unfound}
use Rattle.gr_plan.proofs.tests.MarksRows.find.Goals as goal

pub returns : goal.returns
returns c = marks-unfound c.args.self.now.alive c.args._table c.args._key.now
