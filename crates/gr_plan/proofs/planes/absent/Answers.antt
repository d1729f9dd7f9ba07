use Rattle.std.proofs.Common.{rules, ap, ◌-◌, ◌∙◌}
use Rattle.std.specs.Int.{bit_at}
use Rattle.gr_plan.proofs.PlaneLemmas.{without-is}
use Rattle.gr_plan.proofs.planes.absent.Goals as goal

pub returns : goal.returns
returns c = λ place within.
    c.once.ensures place
    ∙ without-is c.args.mask c.found.result place (search rules) within
    ∙ ap (λ bit. bit_at c.args.mask place - bit) (c.found.ensures place)
