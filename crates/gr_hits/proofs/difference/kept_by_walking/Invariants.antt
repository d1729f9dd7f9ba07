use Rattle.std.proofs.Common.{◌+◌, ◌-◌, ◌≤◌, drop, length, vec_len}
use Rattle.std.specs.Vec.{vec_capacity}
use Rattle.gr_hits.specs.Hits.{AreHits, without_score}
use Rattle.gr_hits.proofs.SumLemmas.{Continues}
use Rattle.gr_hits.proofs.difference.kept_by_walking.Given as goal

abbrev pub invariant-loop-hit : goal.invariant-loop-hit
invariant-loop-hit l = record {
  sound : AreHits l.rest;
  room : vec_len l.hits + (length l.left - l.hit-index) ≤ vec_capacity l.hits;
  sums : Continues without_score l.fn.left l.fn.right (drop l.hit-index l.left) l.rest l.hits.items;
}
