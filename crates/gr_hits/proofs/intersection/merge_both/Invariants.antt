use Rattle.std.proofs.Common.{◌+◌, ◌-◌, ◌≤◌, drop, length, take}
use Rattle.gr_hits.specs.Hits.{both_score}
use Rattle.gr_hits.proofs.SumLemmas.{Continues}
use Rattle.gr_hits.proofs.intersection.merge_both.Given as goal

abbrev pub invariant-merge : goal.invariant-merge
invariant-merge l = record {
  left : l.i ≤ length l.left;
  right : l.j ≤ length l.right;
  room : l.made ≤ l.i;
  room_right : l.made ≤ l.j;
  sums : Continues both_score l.fn.left l.fn.right (drop l.i l.left) (drop l.j l.right) (take l.made l.hits);
}

abbrev pub decreases-merge : goal.decreases-merge
decreases-merge l = (length l.left - l.i) + (length l.right - l.j)
