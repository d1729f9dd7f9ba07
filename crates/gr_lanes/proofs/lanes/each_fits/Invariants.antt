use Rattle.std.proofs.Common.{take}
use mir.Syntax.{w64}
use mir.Val.{SFits}
use Rattle.std.specs.List.{All}
use Rattle.gr_lanes.proofs.lanes.each_fits.Given as goal

abbrev pub invariant-loop-value : goal.invariant-loop-value
invariant-loop-value l = All (SFits w64) (take l.value-index l.values)
