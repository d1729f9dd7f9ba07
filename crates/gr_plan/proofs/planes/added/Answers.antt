use Rattle.gr_plan.proofs.PlaneLemmas.{added-is}
use Rattle.gr_plan.proofs.planes.added.Goals as goal

pub returns : goal.returns
returns c = λ place. added-is c.args.left c.args.right c.args.carried place
