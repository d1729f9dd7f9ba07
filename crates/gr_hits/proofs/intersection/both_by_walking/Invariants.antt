use Rattle.std.proofs.Common.{◌+◌, ◌-◌, ◌≤◌, drop, length, vec_len}
use Rattle.std.specs.Vec.{vec_capacity}
use Rattle.gr_hits.specs.Hits.{AreHits, both_score}
use Rattle.gr_hits.proofs.SumLemmas.{Continues}
use Rattle.gr_hits.proofs.intersection.both_by_walking.Given as goal

abbrev pub invariant-loop-hit : goal.invariant-loop-hit
invariant-loop-hit l = record {
  sound : AreHits l.rest;
  room : vec_len l.hits + (length l.walked - l.hit-index) ≤ vec_capacity l.hits;
  sums : Continues both_score l.fn.walked l.fn.searched (drop l.hit-index l.walked) l.rest l.hits.items;
}
