use Rattle.std.proofs.Common.{◌≡◌, take}
use Rattle.std.specs.Int.{int_min, int_max}
use Rattle.std.specs.List.{fold}
use Rattle.gr_lanes.proofs.min_max_i64.Given as goal

abbrev pub invariant-loop-value : goal.invariant-loop-value
invariant-loop-value l = (l.least ≡ fold int_min l.initial.least (take l.value-index l.others)) × (l.greatest ≡ fold int_max l.initial.greatest (take l.value-index l.others))
