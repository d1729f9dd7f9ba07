use Rattle.gr_plan.proofs.MarkLemmas.{marks-keyless}
use Rattle.gr_plan.proofs.tests.MarksRows.key.Goals as goal

pub returns : goal.returns
returns c = marks-keyless c.args.self.now.alive c.args._table c.args._id
