use Rattle.std.proofs.Common.{◌≡◌, take}
use Rattle.gr_columns.proofs.again.each_again.Given as goal

-- the copies so far are the values so far
abbrev pub invariant-loop-value : goal.invariant-loop-value
invariant-loop-value g l = l.copies.items ≡ take l.value-index l.values
