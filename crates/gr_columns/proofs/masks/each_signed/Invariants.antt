use Rattle.std.proofs.Common.{take}
use mir.Syntax.{w64}
use mir.Val.{SFits}
use Rattle.std.specs.List.{All}
use Rattle.gr_columns.proofs.masks.each_signed.Given as goal

abbrev pub invariant-loop-value : goal.invariant-loop-value
invariant-loop-value l = All (SFits w64) (take l.value-index l.values)
