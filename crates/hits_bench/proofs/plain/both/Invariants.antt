use Rattle.std.proofs.Common.{◌+◌, ◌-◌, ◌≤◌, length}
use Rattle.hits_bench.proofs.plain.both.Given as goal

abbrev pub invariant-steps : goal.invariant-steps
invariant-steps l = (l.i ≤ length l.left) × (l.j ≤ length l.right)

abbrev pub decreases-steps : goal.decreases-steps
decreases-steps l = (length l.left - l.i) + (length l.right - l.j)
