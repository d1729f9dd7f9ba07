use Rattle.std.proofs.Common.{◌+◌, Bool, [], drop, get_or, refl, subst, arith}
use Rattle.std.specs.List.{AllByRecursion}
use Rattle.std.proofs.lemmas.List.{drop_more}
use Rattle.gr_hits.specs.Inside.Counts.{AreUpTo, Counts}
use Rattle.gr_hits.specs.Inside.Cursors.{AreBehind}
use Rattle.gr_hits.specs.Places.{Place, IsBefore, Ascend}
use Rattle.gr_hits.proofs.CountLemmas.{no_place, all_always, up_to_later, count_more}
use Rattle.gr_hits.proofs.CursorLemmas.{behind-start, behind-later}
use Rattle.gr_hits.proofs.HitLemmas.{all_weaker, hits-nil}
use Rattle.gr_hits.proofs.PlaceLemmas.{ascend-drop}
use Rattle.gr_hits.proofs.phrases.count_places.Goals as goal

pub loop-place-init : goal.loop-place-init
loop-place-init c = record {
  sound = rw (c.requires.none) hits-nil;
  room = omega arith;
  order = rw (c.requires.none) (all_always (λ (place : Place). AreUpTo place.0 []) (λ place. tt) c.args.first.now);
  behind = all_always (λ (place : Place). AreBehind c.args.cursors.now c.args.others.now place.0 (place.1 + 1)) (λ place. behind-start c.args.cursors.now c.args.others.now place.0 (place.1 + 1) c.requires.start) c.args.first.now;
  exact = λ id. rw (c.requires.none) refl;
}

pub loop-place-preserved : goal.loop-place-preserved
loop-place-preserved c =
    let first = c.args.first.now in
    let i = c.loop-place.place-index in
    let split = drop_more first i no_place c.loop-place-test.true in
    let later : AllByRecursion (IsBefore (get_or first i no_place)) (drop (i + 1) first) = (subst Ascend split (ascend-drop i first c.requires.order)).0 in
    record {
      sound = c.count_if.ensures.sound;
      room = omega arith;
      order = all_weaker (IsBefore (get_or first i no_place)) (λ (place : Place). AreUpTo place.0 c.count_if.new.hits.items)
          (λ place b. up_to_later c.count_if.new.hits.items (get_or first i no_place) place b c.count_if.ensures.order) (drop (i + 1) first) later;
      behind = all_weaker (IsBefore (get_or first i no_place)) (λ (place : Place). AreBehind c.follow-stands.new.cursors c.args.others.now place.0 (place.1 + 1))
          (λ place b. behind-later c.follow-stands.new.cursors c.args.others.now (get_or first i no_place) place b c.follow-stands.ensures.behind) (drop (i + 1) first) later;
      exact = count_more first c.args.others.now i no_place c.loop-place.hits.items c.count_if.new.hits.items c.loop-place-test.true
          (subst (λ (b : Bool). Counts (get_or first i no_place).0 b c.loop-place.hits.items c.count_if.new.hits.items) c.follow-stands.ensures.exact c.count_if.ensures.exact) c.loop-place.invariant.exact;
    }
