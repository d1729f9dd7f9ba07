use Rattle.std.proofs.Common.{◌+◌, ◌∙◌, sym}
use Rattle.std.proofs.lemmas.List.{nil_from_length}
use Rattle.gr_hits.proofs.PlaceLemmas.{places_part, moved_before, found_none, found_first, ascend-drop}
use Rattle.gr_hits.proofs.cursors.seek.Goals as goal

pub count_before-skipped-requires : goal.count_before-skipped-requires
count_before-skipped-requires c = places_part c.split_at.result.1.now c.args.spot.now.id (c.args.spot.now.position + c.args.spot.now.further) (rw c.split_at.ensures.back (ascend-drop c.args.cursor.now c.args.places.now c.requires.order))

pub returns-in-Some-clause-exact : goal.returns-in-Some-clause-exact
returns-in-Some-clause-exact c =
    c.is_at.ensures ∙ sym (found_first c.args.spot.now.id (c.args.spot.now.position + c.args.spot.now.further) c.args.places.now c.split_at.result.1.now c.split_at-2.result.1.now c.args.cursor.now c.count_before-skipped.result c.in-Some.place.now _
    c.requires.order c.requires.behind c.split_at.ensures.back c.count_before-skipped.ensures.exact c.split_at-2.ensures.back c.in-Some.ensures.cases.0)

pub returns-in-Some-clause-behind : goal.returns-in-Some-clause-behind
returns-in-Some-clause-behind c =
    moved_before c.args.spot.now.id (c.args.spot.now.position + c.args.spot.now.further) c.args.places.now c.split_at.result.1.now c.args.cursor.now c.count_before-skipped.result c.requires.behind c.split_at.ensures.back c.count_before-skipped.ensures.exact

pub returns-in-None-clause-exact : goal.returns-in-None-clause-exact
returns-in-None-clause-exact c =
    sym (found_none c.args.spot.now.id (c.args.spot.now.position + c.args.spot.now.further) c.args.places.now c.split_at.result.1.now c.split_at-2.result.1.now c.args.cursor.now c.count_before-skipped.result
    c.requires.behind c.split_at.ensures.back c.count_before-skipped.ensures.exact c.split_at-2.ensures.back (nil_from_length _ c.in-None.ensures.cases))

pub returns-in-None-clause-behind : goal.returns-in-None-clause-behind
returns-in-None-clause-behind c =
    moved_before c.args.spot.now.id (c.args.spot.now.position + c.args.spot.now.further) c.args.places.now c.split_at.result.1.now c.args.cursor.now c.count_before-skipped.result c.requires.behind c.split_at.ensures.back c.count_before-skipped.ensures.exact
