use Rattle.std.proofs.Common.{◌≡◌, false, take}
use Rattle.gr_index.specs.Ranges.{begins_at}
use Rattle.gr_index.proofs.ranges.beginning.Given as goal

abbrev pub invariant-loop-at : goal.invariant-loop-at
invariant-loop-at l = begins_at l.place (take l.at l.parts) ≡ false
