use Rattle.std.proofs.Common.{[], get_or, refl, arith}
use Rattle.std.proofs.lemmas.List.{append-nil, drop_all}
use Rattle.gr_hits.specs.Hits.{without_score}
use Rattle.gr_hits.proofs.SumLemmas.{walk-drop, sums-end, score-at, without-most, without-none, no_hit}
use Rattle.gr_hits.proofs.difference.kept_by_walking.Goals as goal

pub loop-hit-preserved : goal.loop-hit-preserved
loop-hit-preserved c =
    let p = c.parts_at-parts.ensures in
    let score = score-at c.args.left.now c.requires.left c.loop-hit.hit-index no_hit c.loop-hit-test.true in
    record {
      sound = p.sound;
      room = omega arith;
      sums = rw (c.append_scored.ensures.items, c.without_score.ensures)
          (walk-drop without_score refl c.args.left.now c.args.right.now c.requires.left c.loop-hit.hit-index no_hit c.loop-hit-test.true without-none
          c.loop-hit.rest.now _ c.parts_at-parts.result.score _ c.loop-hit.hits.items c.loop-hit.invariant.sound p (without-most (get_or c.args.left.now c.loop-hit.hit-index no_hit).1 c.parts_at-parts.result.score score) c.loop-hit.invariant.sums);
    }

pub returns : goal.returns
returns c =
    let end = drop_all c.loop-hit.hit-index c.args.left.now c.loop-hit-test.false in
    rw append-nil at (c.loop-hit.invariant.sums [] (sums-end without_score without-none _ c.loop-hit.rest.now end))
