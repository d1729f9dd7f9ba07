use Rattle.std.proofs.Common.{[], get_or, refl, arith}
use Rattle.std.proofs.lemmas.List.{drop_all}
use Rattle.gr_hits.specs.Hits.{sum}
use Rattle.gr_hits.proofs.SumLemmas.{walk-pass, sums-rest, score-at, parts-length, kept-some, sum-alone, no_hit}
use Rattle.gr_hits.proofs.union.either_by_walking.Goals as goal

pub append_hit-requires : goal.append_hit-requires
append_hit-requires c = let l = parts-length _ _ _ _ _ c.parts_at-parts.ensures in omega arith

pub append_hits-requires : goal.append_hits-requires
append_hits-requires c = let l = parts-length _ _ _ _ _ c.parts_at-parts.ensures in omega arith

pub loop-hit-preserved : goal.loop-hit-preserved
loop-hit-preserved c =
    let p = c.parts_at-parts.ensures in
    let score = score-at c.args.walked.now c.requires.walked c.loop-hit.hit-index no_hit c.loop-hit-test.true in
    let shorter = parts-length _ _ _ _ _ p in
    record {
      sound = p.sound;
      room = omega arith;
      sums = rw (c.append_hit.ensures.items, c.append_hits.ensures.items, c.sum.ensures, ← kept-some (get_or c.args.walked.now c.loop-hit.hit-index no_hit).0 (sum (get_or c.args.walked.now c.loop-hit.hit-index no_hit).1 c.parts_at-parts.result.score) [] (λ e. let least = score.some in omega arith))
          (walk-pass sum refl c.args.walked.now c.args.searched.now c.requires.walked c.loop-hit.hit-index no_hit c.loop-hit-test.true sum-alone
          c.loop-hit.rest.now _ c.parts_at-parts.result.score _ c.loop-hit.hits.items c.loop-hit.invariant.sound p (omega arith) c.loop-hit.invariant.sums);
    }

pub returns : goal.returns
returns c =
    let end = drop_all c.loop-hit.hit-index c.args.walked.now c.loop-hit-test.false in
    rw (c.append_hits-2.ensures.items) (c.loop-hit.invariant.sums c.loop-hit.rest.now (sums-rest sum refl sum-alone _ c.loop-hit.rest.now end c.loop-hit.invariant.sound))
