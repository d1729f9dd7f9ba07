-- Where segments stand in the list.
use Rattle.std.specs.Prelude.{◌≡◌, ℕ, ◌+◌, ◌-◌, ◌^◌, ◌<◌, ◌≤◌, true, List, ◌++◌, drop, length, take, slice_index_or}
use Rattle.std.specs.List.{AllByRecursion, count_by}
use Rattle.gr_index.specs.declared.limits.TheConstants.{FOLDED_SEGMENTS, MOST_SEGMENTS}
use Rattle.gr_index.specs.declared.parts.Span.{Span}
use Rattle.gr_index.specs.Levels.{Part, end_of, is_of_level}
use Rattle.gr_index.specs.Ranges.{after, before, fits, oldest, within}

-- the segment at a place in the list begins at this journal place
pub record BeginsAt (place : ℕ) (parts : List Part) (at : ℕ) : Type 0 where
  pub bound : at < length parts
  pub begins : (d : Part) → (slice_index_or parts at d).from ≡ place

-- the segment before this place in the list ends at this journal place
pub record EndsBefore (place : ℕ) (parts : List Part) (stop : ℕ) : Type 0 where
  pub at : ℕ
  pub is : stop ≡ at + 1
  pub bound : at < length parts
  pub ends : (d : Part) → (slice_index_or parts at d).to ≡ place

-- the segments of a range stand in the list from one place up to another
pub record IsLocated (place from to : ℕ) (parts : List Part) (start stop : ℕ) : Type 0 where
  pub order : start < stop
  pub bound : stop ≤ length parts
  pub begins : from ≡ end_of place (take start parts)
  pub ends : to ≡ end_of place (take stop parts)
  pub fit : fits from to parts ≡ true
  pub before : before from parts ≡ take start parts
  pub within : within from to parts ≡ take (stop - start) (drop start parts)
  pub after : after to parts ≡ drop stop parts

-- the sixteen oldest of a level stand in the list from one place up to another
pub record IsOldest (level : ℕ) (parts : List Part) (start stop : ℕ) : Type 0 where
  pub enough : FOLDED_SEGMENTS ≤ count_by (is_of_level level) parts
  pub size : stop ≡ start + FOLDED_SEGMENTS
  pub bound : stop ≤ length parts
  pub oldest : oldest level parts ≡ take (stop - start) (drop start parts)
  pub higher : AllByRecursion (λ p. level < p.level) (take start parts)
  pub lower : AllByRecursion (λ p. p.level ≤ level) (drop stop parts)

-- a chunk of this span can stand in place of the segments from one place in the list up to another: it covers their places, no earlier segment is of a lower level and no later one of a higher, its level has room without them, and it is wide enough for it
pub record IsSpanFor (place : ℕ) (parts : List Part) (start stop : ℕ) (span : Span) : Type 0 where
  pub order : start < stop
  pub bound : stop ≤ length parts
  pub begins : span.from ≡ end_of place (take start parts)
  pub ends : span.to ≡ end_of place (take stop parts)
  pub higher : AllByRecursion (λ p. span.level ≤ p.level) (take start parts)
  pub lower : AllByRecursion (λ p. p.level ≤ span.level) (drop stop parts)
  pub room : count_by (is_of_level span.level) (take start parts ++ drop stop parts) < MOST_SEGMENTS
  pub wide : span.from + FOLDED_SEGMENTS ^ span.level ≤ span.to
