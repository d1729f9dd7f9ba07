-- One more place is counted, and there is another.
use Rattle.std.proofs.Common.{◌≤◌, arith, nat_eq}
use Rattle.gr_tokens.specs.Places.{places}
use Rattle.gr_tokens.proofs.BytePlaces.{starts-places}
use Rattle.gr_tokens.proofs.character_places.places_from.Goals as goal

pub loop-next-preserved : goal.loop-next-preserved
loop-next-preserved c =
    let counted = c.one_more-count.ensures in
    let more = c.in-Some.ensures.places in
    let some : 1 ≤ places nat_eq c.in-Some.next.now c.args.phrase.now = starts-places c.in-Some.next.now c.args.phrase.now c.requires.some c.in-Some.ensures.here in
    record {
      some = omega arith;
      most = omega arith;
      begins = c.in-Some.ensures.here;
      counted = omega (arith, c.loop-next.invariant.counted);
    }
