use Rattle.gr_plan.proofs.MarkLemmas.{marks-cellless}
use Rattle.gr_plan.proofs.tests.MarksRows.cell.Goals as goal

pub returns : goal.returns
returns c = marks-cellless c.args.self.now.alive c.args._table c.args._id c.args._column
