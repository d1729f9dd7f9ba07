use Rattle.std.proofs.Common.{ap, subst₂, ◌∙◌, length}
use mathlib.Core.Option.{some}
use Rattle.gr_turn.specs.Known.{HasEachOnce}
use Rattle.gr_turn.proofs.EndLemmas.{closes, never_empty, last_value}
use Rattle.gr_turn.proofs.KnownLemmas.{each_of_once}
use Rattle.gr_turn.proofs.PassLemmas.{at_rest}
use Rattle.gr_turn.proofs.turn.Turn.close.Goals as goal

pub unreachable-requires : goal.unreachable-requires
unreachable-requires g c =
    let idle = at_rest _ _ c.pass.invariant.settled (ap (λ p. p.holds) c.pass.view_is ∙ c.requires.free) in
    let end = closes g.T.Held.entries g.T.Held.fixed _ _ _ _ _ idle.0 (ap (λ p. p.shares) c.pass.view_is ∙ c.requires.all) c.close_with-closed.ensures.values.2 in
    never_empty g.T.Held.entries g.T.Held.fixed _ _ end (c.take-slot.ensures.value ∙ ap (λ x. some x) c.in-None.is)

pub returns : goal.returns
returns g c =
    let idle = at_rest _ _ c.pass.invariant.settled (ap (λ p. p.holds) c.pass.view_is ∙ c.requires.free) in
    let end = closes g.T.Held.entries g.T.Held.fixed _ _ _ _ _ idle.0 (ap (λ p. p.shares) c.pass.view_is ∙ c.requires.all) c.close_with-closed.ensures.values.2 in
    let last = last_value g.T.Held.entries g.T.Held.fixed _ _ _ end (c.take-slot.ensures.value ∙ ap (λ x. some x) c.in-Some.is) in
    let once = subst₂ (λ own seen. HasEachOnce own (length seen)) (ap (λ p. p.own) c.pass.view_is) (ap (λ p. p.seen) c.pass.view_is) last.once in
    record {
      list = last.shows ∙ ap (λ p. p.seen) c.pass.view_is;
      fixed = last.keeps ∙ ap (λ p. p.turn.fixed) c.pass.view_is ∙ ap (λ turn. turn.fixed) c.requires.turn;
      each = each_of_once _ _ once;
      once = once;
    }
