-- Where the terms of a phrase stand, and how often the phrase does.
use Rattle.std.specs.Prelude.{ℕ, ◌≡◌, ◌+◌, ◌<◌, ◌⊎◌, ◌==◌, ◌&&◌, Bool, true, min, List, [], ◌∷◌, filter, length}
use Rattle.std.specs.List.{AllByRecursion, list_any}
use Rattle.gr_base.specs.declared.limits.TheConstants.{MOST_SCORE}
use Rattle.gr_base.specs.declared.numbers.RecordId.{RecordId}
use Rattle.gr_hits.specs.Hits.{Hit, score_of}

-- a record, and a position in its text
abbrev pub Place : Type 0
Place = RecordId × ℕ

-- a place before another: in an earlier record, or earlier in the same
abbrev pub IsBefore : Place → Place → Type 0
IsBefore one other = (one.0.0 < other.0.0) ⊎ ((one.0.0 ≡ other.0.0) × (one.1 < other.1))

-- places that ascend
abbrev pub Ascend : List Place → Type 0
Ascend [] = Unit {0}
Ascend (place ∷ places) = AllByRecursion (IsBefore place) places × Ascend places

-- whether a place is among these
abbrev pub stands : List Place → RecordId → ℕ → Bool
stands places id position = list_any (λ place. place.0.0 == id.0 && place.1 == position) places

-- whether each term stands at its position, of which the first is this and each next one is one further
abbrev pub stand_from : List (List Place) → RecordId → ℕ → Bool
stand_from [] id position = true
stand_from (term ∷ terms) id position = stands term id position && stand_from terms id (position + 1)

-- the places of the first term at which the phrase begins in a record
abbrev pub beginnings : List Place → List (List Place) → RecordId → List Place
beginnings first others id = filter (λ place. place.0.0 == id.0 && stand_from others place.0 (place.1 + 1)) first

-- each record's score is the number of times that the phrase stands in it; it stands still at the highest
abbrev pub CountsPhrase : List (List Place) → List Hit → Type 0
CountsPhrase [] made = ⊥
CountsPhrase (first ∷ others) made = (id : RecordId) → score_of made id ≡ min (length (beginnings first others id)) MOST_SCORE
