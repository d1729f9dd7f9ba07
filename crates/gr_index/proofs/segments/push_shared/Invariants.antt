use Rattle.std.proofs.Common.{◌≡◌, ◌++◌, map, take}
use Rattle.gr_index.specs.Inside.Parts.{held_of}
use Rattle.gr_index.proofs.segments.push_shared.Given as goal

abbrev pub invariant-loop-segment : goal.invariant-loop-segment
invariant-loop-segment l = map held_of l.segments.items ≡ map held_of l.fn.segments.items ++ map held_of (take l.segment-index l.others)
