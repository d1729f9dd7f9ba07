use Rattle.std.proofs.Common.{rules, ap, ◌∙◌}
use Rattle.gr_turn.proofs.PassLemmas.{at_rest}
use Rattle.gr_turn.proofs.StepLemmas.{splits}
use Rattle.gr_turn.proofs.turn.Turn.split.Goals as goal

pub split_seat-seat-requires : goal.split_seat-seat-requires
split_seat-seat-requires g c =
    let idle = at_rest _ _ c.pass.invariant.settled (ap (λ p. p.holds) c.pass.view_is ∙ c.requires.free) in
    (search rules, search rules, splits g.T.Held.entries g.T.Held.fixed _ _ _ idle.0 (search rules))
