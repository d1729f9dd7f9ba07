-- Each place by bytes is looked at, and none is passed over.
use Rattle.std.proofs.Common.{◌≡◌, ◌+◌, ◌∙◌, cond, ap, sym, arith}
use Rattle.gr_tokens.proofs.AloneSteps.{alone_left, alone_left-first, alone_left-last, alone_left-next, count-step, left-first, left-next}
use Rattle.gr_tokens.proofs.alone_places.alone_from.Goals as goal

pub loop-next-init : goal.loop-next-init
loop-next-init c =
    let part = left-first c.args.text.now c.args.phrase.now c.args.first.now c.requires.first in
    let all = alone_left-first c.args.text.now c.args.phrase.now c.args.first.now c.requires.first in
    record {
      most = omega arith;
      part = part.0;
      within = part.1;
      begins = c.requires.first.stands;
      counted = omega (arith, all);
    }

pub loop-next-preserved : goal.loop-next-preserved
loop-next-preserved c =
    let found = c.in-Some.ensures.next in
    let kept = c.loop-next.invariant in
    let is = rw c.needle.ensures at c.is_alone.ensures in
    let split = alone_left-next c.args.text.now c.args.phrase.now c.loop-next.here.now c.in-Some.next.now kept.part kept.within c.requires.some kept.begins found in
    let here = split ∙ ap (λ b. cond b 1 0 + alone_left c.args.text.now c.args.phrase.now c.in-Some.next.now) (sym is) in
    let counted = count-step c.is_alone.result c.loop-next.count c.one_more_if-count.result _ _ _ kept.most c.one_more_if-count.ensures here kept.counted in
    let shorter = c.in-Some.ensures.shorter in
    record {
      most = counted.0;
      part = left-next c.args.text.now c.args.phrase.now c.loop-next.here.now c.in-Some.next.now kept.part kept.within found;
      within = omega (arith, shorter, kept.within);
      begins = c.in-Some.ensures.here;
      counted = counted.1;
    }

pub returns-in-None : goal.returns-in-None
returns-in-None c =
    let kept = c.loop-next.invariant in
    let is = rw c.needle.ensures at c.is_alone.ensures in
    let split = alone_left-last c.args.text.now c.args.phrase.now c.loop-next.here.now c.requires.some kept.begins c.in-None.ensures.next in
    let last = split ∙ ap (λ b. cond b 1 0) (sym is) in
    let here : alone_left c.args.text.now c.args.phrase.now c.loop-next.here.now ≡ cond c.is_alone.result 1 0 + 0 = omega (arith, last) in
    let counted = count-step c.is_alone.result c.loop-next.count c.one_more_if-count.result _ 0 _ kept.most c.one_more_if-count.ensures here kept.counted in
    omega (arith, counted.0, counted.1)
