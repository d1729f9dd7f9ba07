use Rattle.gr_plan.proofs.PlaneLemmas.{found-is}
use Rattle.gr_plan.proofs.planes.found.Goals as goal

pub returns : goal.returns
returns c = λ place. found-is c.args.scores.ones c.args.scores.twos c.args.scores.fours c.args.scores.eights place
