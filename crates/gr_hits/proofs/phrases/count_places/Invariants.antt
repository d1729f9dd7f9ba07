use Rattle.std.proofs.Common.{◌≡◌, ◌+◌, ◌-◌, ◌≤◌, min, drop, length, take, vec_len}
use Rattle.std.specs.List.{AllByRecursion}
use Rattle.std.specs.Vec.{vec_capacity}
use Rattle.gr_base.specs.declared.limits.TheConstants.{MOST_SCORE}
use Rattle.gr_base.specs.declared.numbers.RecordId.{RecordId}
use Rattle.gr_hits.specs.Hits.{AreHits, score_of}
use Rattle.gr_hits.specs.Inside.Counts.{AreUpTo}
use Rattle.gr_hits.specs.Inside.Cursors.{AreBehind}
use Rattle.gr_hits.specs.Places.{Place, beginnings}
use Rattle.gr_hits.proofs.phrases.count_places.Given as goal

abbrev pub invariant-loop-place : goal.invariant-loop-place
invariant-loop-place l = record {
  sound : AreHits l.hits.items;
  room : vec_len l.hits + (length l.first - l.place-index) ≤ vec_capacity l.hits;
  order : AllByRecursion (λ (place : Place). AreUpTo place.0 l.hits.items) (drop l.place-index l.first);
  behind : AllByRecursion (λ (place : Place). AreBehind l.cursors l.others place.0 (place.1 + 1)) (drop l.place-index l.first);
  exact : (id : RecordId) → score_of l.hits.items id ≡ min (length (beginnings (take l.place-index l.first) l.others id)) MOST_SCORE;
}
