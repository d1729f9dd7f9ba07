use Rattle.std.proofs.Common.{◌+◌, ◌-◌, ◌≤◌, drop, length, vec_len}
use Rattle.std.specs.Vec.{vec_capacity}
use Rattle.gr_hits.specs.Hits.{sum}
use Rattle.gr_hits.proofs.SumLemmas.{Continues}
use Rattle.gr_hits.proofs.union.either_by_merging.Given as goal

abbrev pub invariant-merge : goal.invariant-merge
invariant-merge l = record {
  left : l.i ≤ length l.left;
  right : l.j ≤ length l.right;
  room : vec_len l.hits ≤ l.i + l.j;
  capacity : length l.left + length l.right ≤ vec_capacity l.hits;
  sums : Continues sum l.fn.left l.fn.right (drop l.i l.left) (drop l.j l.right) l.hits.items;
}

abbrev pub decreases-merge : goal.decreases-merge
decreases-merge l = (length l.left - l.i) + (length l.right - l.j)
