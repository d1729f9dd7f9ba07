use Rattle.std.proofs.Common.{◌≡◌, map, take}
use Rattle.std.specs.Simd.Lanes.{mask_l}
use Rattle.gr_lanes.proofs.lanes.mask_by.Given as goal

abbrev pub invariant-loop-place : goal.invariant-loop-place
invariant-loop-place g l = l.mask ≡ mask_l (map (g.T.Test.passes l.test) (take l.place l.values))
