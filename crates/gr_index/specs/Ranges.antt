-- Ranges of journal places over an index: which fit, which is ripe to be folded, and what stands after a fold.
use Rattle.std.specs.Prelude.{◌≡◌, ℕ, ◌+◌, ◌<◌, ◌≤◌, Bool, true, false, ◌&&◌, ◌||◌, nat_eq, nat_le, nat_lt, if◌then◌else◌, Option, Some, None, List, [], ◌∷◌, ◌++◌, length, take}
use Rattle.std.specs.List.{count_by, filter, list_all, list_any}
use Rattle.gr_base.specs.declared.failure.Failure.{Failure}
use Rattle.gr_base.specs.declared.failure.Failure.TheVariants.{Refused, NoMemory}
use Rattle.gr_postings.specs.declared.posting.Posting.{Posting}
use Rattle.gr_index.specs.declared.limits.TheConstants.{FOLDED_SEGMENTS, MOST_SEGMENTS}
use Rattle.gr_index.specs.declared.ranges.Stale.{Stale}
use Rattle.gr_index.specs.Levels.{Part, is_of_level, end_of}

-- whether a segment begins at a place, and whether one ends there
abbrev pub begins_at : ℕ → List Part → Bool
begins_at place = list_any (λ p. nat_eq p.from place)

abbrev pub ends_at : ℕ → List Part → Bool
ends_at place = list_any (λ p. nat_eq p.to place)

-- whether a range fits: it is not empty, a segment begins where it begins, and one ends where it ends
abbrev pub fits : ℕ → ℕ → List Part → Bool
fits from to parts = nat_lt from to && (begins_at from parts && ends_at to parts)

-- the number of a range that does not fit at which no segment begins or ends
abbrev pub missing : ℕ → ℕ → List Part → ℕ
missing from to parts = if begins_at from parts then to else from

-- a chunk for a range is refused exactly where the range does not fit; want of memory comes only where it does
abbrev pub IsFaultOf : ℕ → ℕ → List Part → Failure Stale → Type 0
IsFaultOf from to parts (Refused stale) = (fits from to parts ≡ false) × (stale.missing ≡ missing from to parts)
IsFaultOf from to parts NoMemory = fits from to parts ≡ true

-- the segments that tile a range
abbrev pub within : ℕ → ℕ → List Part → List Part
within from to = filter (λ p. nat_le from p.from && nat_le p.to to)

-- those before it, and those after it
abbrev pub before : ℕ → List Part → List Part
before from = filter (λ p. nat_le p.to from)

abbrev pub after : ℕ → List Part → List Part
after to = filter (λ p. nat_le to p.from)

-- the highest level of some segments, which is the first one's
abbrev pub first_level : List Part → ℕ
first_level [] = 0
first_level (p ∷ ps) = p.level

-- whether a chunk that replaces these goes up from a level: they are at least sixteen, all of the level and the oldest of it, and the level above has room
abbrev pub goes_up_from : ℕ → List Part → List Part → List Part → Bool
goes_up_from level old replaced parts =
    nat_le FOLDED_SEGMENTS (length replaced)
    && (list_all (is_of_level level) replaced
    && (nat_eq (count_by (is_of_level level) old) 0
    && nat_lt (count_by (is_of_level (level + 1)) parts) MOST_SEGMENTS))

-- the level of a chunk that replaces these
abbrev pub level_after : List Part → List Part → List Part → ℕ
level_after old replaced parts = if goes_up_from (first_level replaced) old replaced parts then first_level replaced + 1 else first_level replaced

-- the segments with a chunk of these postings in place of those of a range
abbrev pub swapped : ℕ → ℕ → List Posting → List Part → List Part
swapped from to postings parts =
    before from parts
    ++ record { level = level_after (before from parts) (within from to parts) parts; from = from; to = to; is_chunk = true; postings = postings } ∷ []
    ++ after to parts

-- the sixteen oldest of a level
abbrev pub oldest : ℕ → List Part → List Part
oldest level parts = take FOLDED_SEGMENTS (filter (is_of_level level) parts)

-- the range of the sixteen oldest of the lowest level that has as many
pub record IsRipe (parts : List Part) (from to : ℕ) : Type 0 where
  pub level : ℕ
  pub enough : FOLDED_SEGMENTS ≤ count_by (is_of_level level) parts
  pub lowest : (lower : ℕ) → lower < level → count_by (is_of_level lower) parts < FOLDED_SEGMENTS
  pub begins : (p : Part) (ps : List Part) → oldest level parts ≡ p ∷ ps → from ≡ p.from
  pub ends : to ≡ end_of from (oldest level parts)

-- no level has as many
abbrev pub IsUnripe : List Part → Type 0
IsUnripe parts = (level : ℕ) → count_by (is_of_level level) parts < FOLDED_SEGMENTS
