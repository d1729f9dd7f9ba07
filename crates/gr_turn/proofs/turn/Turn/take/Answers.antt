use Rattle.std.proofs.Common.{ℕ, ap, subst₂, ◌∙◌, ◌<◌, length}
use Rattle.gr_turn.specs.Known.{times}
use Rattle.gr_turn.proofs.KnownLemmas.{below_of_times}
use Rattle.gr_turn.proofs.turn.Turn.take.Goals as goal

pub returns-clause-own : goal.returns-clause-own
returns-clause-own g c =
    let own = ap (λ m. m.0.own) c.enter-number.ensures.drawn ∙ ap (λ p. p.own) c.pass.view_is in
    let seen = ap (λ m. m.0.seen) c.enter-number.ensures.drawn ∙ ap (λ p. p.seen) c.pass.view_is in
    below_of_times _ _ (subst₂ (λ places xs. (place : ℕ) → 0 < times place places → place < length xs) own seen c.wait_for.ensures.served.own)
