use Rattle.std.proofs.Common.{length}
use Rattle.gr_postings.proofs.PositionLemmas.{Pushed}
use Rattle.gr_postings.proofs.view.push_positions.Given as goal

abbrev pub invariant-loop-position : goal.invariant-loop-position
invariant-loop-position l = Pushed l.fn.bytes.items l.fn.positions l.bytes.items l.positions l.last

abbrev pub decreases-loop-position : goal.decreases-loop-position
decreases-loop-position l = length l.positions
