use Rattle.std.proofs.Common.{rules, ◌-◌, ap, ap₂, min, ◌∙◌}
use Rattle.std.proofs.lemmas.Nat.Bits.{bit_at_and}
use Rattle.std.proofs.lemmas.Option.{IfSome_then}
use Rattle.gr_plan.specs.Inside.Planes.{score_in}
use Rattle.gr_plan.proofs.PlaneLemmas.{joined-and, joined-without, not-is, score_in-most}
use Rattle.gr_plan.proofs.planes.joined.Goals as goal

pub returns-in-And : goal.returns-in-And
returns-in-And c = rw c.in-And.is
    (IfSome_then c.sum.result c.sum.ensures (λ made is. λ place below.
    let left = score_in c.args.left place in
    let right = score_in c.args.right place in
    let both = bit_at_and c.found.result c.found-in-And.result place ∙ ap₂ min (c.found.ensures place) (c.found-in-And.ensures place) in
    is place
    ∙ joined-and left right _ (score_in c.within.result place) (score_in c.within-in-And.result place) (score_in-most c.args.left place) (score_in-most c.args.right place) both
    (c.within.ensures.set place) (c.within.ensures.unset place) (c.within-in-And.ensures.set place) (c.within-in-And.ensures.unset place)))

pub returns-in-Without : goal.returns-in-Without
returns-in-Without c = rw c.in-Without.is (λ place below.
    let none = not-is c.found-in-Without.result place (search rules) below ∙ ap (λ bit. 1 - bit) (c.found-in-Without.ensures place) in
    joined-without (score_in c.args.left place) (score_in c.args.right place) _ (score_in c.within-in-Without.result place) none (c.within-in-Without.ensures.set place) (c.within-in-Without.ensures.unset place))
