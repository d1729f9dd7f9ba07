use Rattle.std.proofs.Common.{◌≡◌, false, take}
use Rattle.gr_index.specs.Ranges.{ends_at}
use Rattle.gr_index.proofs.ranges.ending.Given as goal

abbrev pub invariant-loop-at : goal.invariant-loop-at
invariant-loop-at l = ends_at l.place (take l.at l.parts) ≡ false
