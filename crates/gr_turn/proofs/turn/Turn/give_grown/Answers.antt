use Rattle.std.proofs.Common.{ap, ◌∙◌}
use Rattle.gr_turn.proofs.PassLemmas.{at_work}
use Rattle.gr_turn.proofs.turn.Turn.give_grown.Goals as goal

pub leave-requires-clause-serves : goal.leave-requires-clause-serves
leave-requires-clause-serves g c =
    let work = at_work _ _ c.pass.invariant.settled (ap (λ p. p.holds) c.pass.view_is ∙ c.requires.holds) in
    (work.0, ap (λ m. m.0.stage) c.raise-value.ensures.after ∙ work.1)
