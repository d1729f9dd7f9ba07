-- Segments in levels: what an index is, and what always holds of it.
use Rattle.std.specs.Prelude.{◌≡◌, ℕ, ◌+◌, ◌^◌, ◌<◌, ◌≤◌, Bool, true, false, nat_eq, List, [], ◌∷◌}
use Rattle.std.specs.List.{AllByRecursion, count_by, flat_map}
use Rattle.gr_postings.specs.Postings.{IsInOrder}
use Rattle.gr_postings.specs.declared.posting.Posting.{Posting}
use Rattle.gr_index.specs.declared.limits.TheConstants.{FOLDED_SEGMENTS, MOST_SEGMENTS}

-- a segment of an index: its level, the journal places from one up to another that it covers, whether it is a chunk, and its postings
pub record Part : Type 0 where
  pub level : ℕ
  pub from : ℕ
  pub to : ℕ
  pub is_chunk : Bool
  pub postings : List Posting

-- an index begins at a journal place, and has its segments in one list, the oldest first, so that those of a level stand together
pub record Levels : Type 0 where
  pub place : ℕ
  pub parts : List Part

-- where the last range ends, or the place where there is none
abbrev pub end_of : ℕ → List Part → ℕ
end_of place [] = place
end_of place (p ∷ ps) = end_of p.to ps

-- each range begins where the one before ends, the first at the place, and none is empty
abbrev pub Tile : ℕ → List Part → Type 0
Tile place [] = Unit {0}
Tile place (p ∷ ps) = (p.from ≡ place) × (p.from < p.to) × Tile p.to ps

-- no level is above the one before, since higher levels are older
abbrev pub LevelsFall : List Part → Type 0
LevelsFall [] = Unit {0}
LevelsFall (p ∷ ps) = AllByRecursion (λ q. q.level ≤ p.level) ps × LevelsFall ps

-- the postings of a segment have places in its range
abbrev pub HasPlaces : Part → Type 0
HasPlaces p = AllByRecursion (λ posting. (p.from ≤ posting.place) × (posting.place < p.to)) p.postings

-- whether a segment is of a level
abbrev pub is_of_level : ℕ → Part → Bool
is_of_level level p = nat_eq p.level level

-- what always holds of an index's segments
pub record AreLevels (place : ℕ) (parts : List Part) : Type 0 where
  pub tile : Tile place parts
  pub older : LevelsFall parts
  pub few : (level : ℕ) → count_by (is_of_level level) parts ≤ MOST_SEGMENTS
  pub wide : AllByRecursion (λ p. p.from + FOLDED_SEGMENTS ^ p.level ≤ p.to) parts
  pub chunks : AllByRecursion (λ p. 0 < p.level → p.is_chunk ≡ true) parts
  pub places : AllByRecursion HasPlaces parts
  pub order : AllByRecursion (λ p. IsInOrder p.postings) parts

-- the postings of all segments, the oldest first
abbrev pub postings_of : List Part → List Posting
postings_of = flat_map (λ p. p.postings)
