use Rattle.std.proofs.Common.{◌≡◌, ◌++◌, ◌-◌, length, replicate}
use Rattle.std.specs.Arc.{arc_value}
use Rattle.gr_columns.proofs.places.reaching.Given as goal

-- a blank block for each that was counted
abbrev pub invariant-loop : goal.invariant-loop
invariant-loop g l = l.grown ≡ l.blocks ++ replicate (l.counter - length l.blocks) (arc_value l.blank)
