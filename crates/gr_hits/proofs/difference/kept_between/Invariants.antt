use Rattle.std.proofs.Common.{◌+◌, ◌≤◌, drop, length, vec_len}
use Rattle.std.specs.Vec.{vec_capacity}
use Rattle.gr_hits.specs.Hits.{AreHits, without_score}
use Rattle.gr_hits.proofs.SumLemmas.{Continues}
use Rattle.gr_hits.proofs.difference.kept_between.Given as goal

abbrev pub invariant-loop-hit : goal.invariant-loop-hit
invariant-loop-hit l = record {
  sound : AreHits l.rest;
  room : vec_len l.hits + length l.rest ≤ vec_capacity l.hits;
  sums : Continues (λ left right. without_score right left) l.fn.right l.fn.left (drop l.hit-index l.right) l.rest l.hits.items;
}
