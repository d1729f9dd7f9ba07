use Rattle.std.proofs.Common.{rules, ap, ap₂, subst, ◌∙◌, ◌++◌, ◌≤◌}
use Rattle.gr_turn.specs.Known.{times}
use Rattle.gr_turn.proofs.KnownLemmas.{apart_of_once}
use Rattle.gr_turn.proofs.PassLemmas.{at_rest}
use Rattle.gr_turn.proofs.StepLemmas.{joins, compares}
use Rattle.gr_turn.proofs.turn.Turn.join.Goals as goal

pub join_seat-requires : goal.join_seat-requires
join_seat-requires g c =
    let idle = at_rest _ _ c.into.invariant.settled (ap (λ p. p.holds) c.into.view_is ∙ c.requires.free.0) in
    let other_idle = at_rest _ _ c.other.invariant.settled (ap (λ p. p.holds) c.other.view_is ∙ c.requires.free.1) in
    (search rules, search rules, other_idle.1, search rules, joins g.T.Held.entries g.T.Held.fixed _ _ _ _ _ _ idle.0 other_idle.0 (search rules))

pub load-requires : goal.load-requires
load-requires g c = (search rules, search rules, compares g.T.Held.entries g.T.Held.fixed _ _ _ _)

pub returns-clause-apart : goal.returns-clause-apart
returns-clause-apart g c = let told = c.load.ensures.2 in let now = c.join_seat.ensures.2 in
    let own = ap (λ m. m.0.own) now ∙ ap₂ (λ xs ys. xs ++ ys) (ap (λ p. p.own) c.into.view_is) (ap (λ p. p.own) c.other.view_is) in
    apart_of_once _ _ (λ place. subst (λ xs. times place xs ≤ 1) own (told.once place))
