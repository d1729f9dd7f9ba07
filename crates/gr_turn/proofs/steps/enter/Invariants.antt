use Rattle.std.proofs.Common.{◌≡◌}
use Rattle.gr_turn.specs.Inside.Seats.{IsSameSeat}
use Rattle.gr_turn.proofs.steps.enter.Given as goal

abbrev pub invariant-loop : goal.invariant-loop
invariant-loop g l = IsSameSeat l.initial.seat l.seat × (l.seat.me ≡ l.initial.seat.me)
