use Rattle.std.proofs.Common.{[], get_or, refl, arith}
use Rattle.std.proofs.lemmas.List.{append-nil, drop_all}
use Rattle.gr_hits.specs.Hits.{both_score}
use Rattle.gr_hits.proofs.SumLemmas.{walk-drop, sums-end, both-most, no_hit}
use Rattle.gr_hits.proofs.intersection.both_by_walking.Goals as goal

pub loop-hit-preserved : goal.loop-hit-preserved
loop-hit-preserved c =
    let p = c.parts_at-parts.ensures in
    record {
      sound = p.sound;
      room = omega arith;
      sums = rw (c.append_scored.ensures.items, c.both_score.ensures)
          (walk-drop both_score refl c.args.walked.now c.args.searched.now c.requires.walked c.loop-hit.hit-index no_hit c.loop-hit-test.true (λ s. refl)
          c.loop-hit.rest.now _ c.parts_at-parts.result.score _ c.loop-hit.hits.items c.loop-hit.invariant.sound p (both-most (get_or c.args.walked.now c.loop-hit.hit-index no_hit).1 c.parts_at-parts.result.score) c.loop-hit.invariant.sums);
    }

pub returns : goal.returns
returns c =
    let end = drop_all c.loop-hit.hit-index c.args.walked.now c.loop-hit-test.false in
    rw append-nil at (c.loop-hit.invariant.sums [] (sums-end both_score (λ s. refl) _ c.loop-hit.rest.now end))
