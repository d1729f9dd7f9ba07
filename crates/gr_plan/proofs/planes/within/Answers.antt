use Rattle.gr_plan.proofs.PlaneLemmas.{within-set, within-unset}
use Rattle.gr_plan.proofs.planes.within.Goals as goal

pub returns-clause-set : goal.returns-clause-set
returns-clause-set c = λ place set. within-set c.args.scores c.args.mask place set

pub returns-clause-unset : goal.returns-clause-unset
returns-clause-unset c = λ place unset. within-unset c.args.scores c.args.mask place unset
