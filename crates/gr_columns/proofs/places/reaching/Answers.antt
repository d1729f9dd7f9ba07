use Rattle.std.proofs.Common.{◌≡◌, ◌≤◌, ◌+◌, ◌-◌, ◌++◌, length, replicate, ap, ◌∙◌, arith}
use Rattle.std.specs.Arc.{arc_value}
use Rattle.gr_columns.proofs.places.reaching.Goals as goal

pub returns : goal.returns
returns g c =
    let within : c.loop.counter ≤ c.args.k + 1 = c.loop.auto.counter-end (omega arith) in
    let steps : c.loop.counter - length c.args.blocks.now ≡ c.args.k + 1 - length c.args.blocks.now = omega arith in
    c.loop.invariant ∙ ap (λ n. c.args.blocks.now ++ replicate n (arc_value c.args.blank.now)) steps
