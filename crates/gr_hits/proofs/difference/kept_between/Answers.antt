use Rattle.std.proofs.Common.{[], get_or, refl, arith}
use Rattle.std.proofs.lemmas.List.{append-nil, drop_all}
use Rattle.gr_hits.specs.Hits.{without_score}
use Rattle.gr_hits.proofs.SumLemmas.{walk-pass, sums-rest, score-at, parts-length, without-found, kept-none, no_hit, flipped}
use Rattle.gr_hits.proofs.difference.kept_between.Goals as goal

pub append_hits-requires : goal.append_hits-requires
append_hits-requires c = let l = parts-length _ _ _ _ _ c.parts_at-parts.ensures in omega arith

pub loop-hit-preserved : goal.loop-hit-preserved
loop-hit-preserved c =
    let p = c.parts_at-parts.ensures in
    let score = score-at c.args.right.now c.requires.right c.loop-hit.hit-index no_hit c.loop-hit-test.true in
    let shorter = parts-length _ _ _ _ _ p in
    let gone = without-found c.parts_at-parts.result.score (get_or c.args.right.now c.loop-hit.hit-index no_hit).1 score in
    let walked = walk-pass (λ left right. without_score right left) refl c.args.right.now c.args.left.now c.requires.right c.loop-hit.hit-index no_hit c.loop-hit-test.true (λ s h. refl)
    c.loop-hit.rest.now _ c.parts_at-parts.result.score _ c.loop-hit.hits.items c.loop-hit.invariant.sound p (rw gone (omega arith)) c.loop-hit.invariant.sums in
    record {
      sound = p.sound;
      room = omega arith;
      sums = rw (c.append_hits.ensures.items) (rw (kept-none _ _ [] gone, append-nil) at walked);
    }

pub returns : goal.returns
returns c =
    let end = drop_all c.loop-hit.hit-index c.args.right.now c.loop-hit-test.false in
    rw (c.append_hits-2.ensures.items) (flipped without_score _ _ _ (c.loop-hit.invariant.sums c.loop-hit.rest.now (sums-rest (λ left right. without_score right left) refl (λ s h. refl) _ c.loop-hit.rest.now end c.loop-hit.invariant.sound)))
