use Rattle.std.proofs.Common.{◌≡◌, false}
use Rattle.gr_turn.proofs.tests.lengthen_often.Given as goal

abbrev pub invariant-loop-round : goal.invariant-loop-round
invariant-loop-round g l = (l.pass.turn ≡ l.fn.pass.turn) × (l.pass.holds ≡ false) × (l.pass.shares ≡ l.fn.pass.shares)
