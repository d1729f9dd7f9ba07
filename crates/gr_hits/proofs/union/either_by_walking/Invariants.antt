use Rattle.std.proofs.Common.{◌+◌, ◌-◌, ◌≤◌, drop, length, vec_len}
use Rattle.std.specs.Vec.{vec_capacity}
use Rattle.gr_hits.specs.Hits.{AreHits, sum}
use Rattle.gr_hits.proofs.SumLemmas.{Continues}
use Rattle.gr_hits.proofs.union.either_by_walking.Given as goal

abbrev pub invariant-loop-hit : goal.invariant-loop-hit
invariant-loop-hit l = record {
  sound : AreHits l.rest;
  room : vec_len l.hits + (length l.walked - l.hit-index) + length l.rest ≤ vec_capacity l.hits;
  sums : Continues sum l.fn.walked l.fn.searched (drop l.hit-index l.walked) l.rest l.hits.items;
}
