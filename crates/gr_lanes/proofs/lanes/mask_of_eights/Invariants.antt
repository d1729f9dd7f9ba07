use Rattle.std.proofs.Common.{◌≡◌, ◌*◌, map, take}
use Rattle.std.specs.Simd.Lanes.{mask_l}
use Rattle.gr_lanes.proofs.lanes.mask_of_eights.Given as goal

abbrev pub invariant-loop-group : goal.invariant-loop-group
invariant-loop-group g l = l.mask ≡ mask_l (map (g.T.Test.passes l.test) (take (l.group * 8) l.values))
