-- What an index is after a buffer came.
use Rattle.std.specs.Prelude.{◌≡◌, ℕ, ◌+◌, ◌<◌, ◌≤◌, Bool, true, false, List, [], ◌∷◌, ◌++◌}
use Rattle.std.specs.List.{count_by}
use Rattle.std.specs.List.Sorted.{IsPermutation}
use Rattle.gr_base.specs.declared.numbers.RecordId.{RecordId}
use Rattle.gr_chunks.specs.Segments.{living}
use Rattle.gr_postings.specs.declared.posting.Posting.{Posting}
use Rattle.gr_index.specs.declared.limits.TheConstants.{MOST_SEGMENTS}
use Rattle.gr_index.specs.Levels.{Levels, Part, end_of, is_of_level, postings_of}
use Rattle.gr_index.specs.Ranges.{oldest}

-- the sixteen oldest of a level became one chunk of the level above, of what is alive in them
pub record FoldsOldest (lives : RecordId → ℕ → Bool) (level : ℕ) (old new : List Part) : Type 0 where
  pub older : List Part
  pub newer : List Part
  pub parts : old ≡ older ++ oldest level old ++ newer
  pub from : ℕ
  pub postings : List Posting
  pub begins : (p : Part) (ps : List Part) → oldest level old ≡ p ∷ ps → from ≡ p.from
  pub exact : IsPermutation (living lives (postings_of (oldest level old))) postings
  pub folded : new ≡ older ++ record { level = level + 1; from = from; to = end_of from (oldest level old); is_chunk = true; postings = postings } ∷ [] ++ newer

-- a level has room: it had it, or its oldest were folded into the level above, which had room before
pub data HasRoom (lives : RecordId → ℕ → Bool) : ℕ → List Part → List Part → Type 0 where
  There : (level : ℕ) (parts : List Part) → count_by (is_of_level level) parts < MOST_SEGMENTS → HasRoom lives level parts parts
  Folded : (level : ℕ) (old mid new : List Part) → MOST_SEGMENTS ≤ count_by (is_of_level level) old → HasRoom lives (level + 1) old mid → FoldsOldest lives level mid new → HasRoom lives level old new

-- the buffer is the newest segment, of level 0, from where the last range ended up to just after its place
pub record Adds (lives : RecordId → ℕ → Bool) (old : Levels) (buffer : List Posting) (place : ℕ) (new : Levels) : Type 0 where
  pub parts : List Part
  pub room : HasRoom lives 0 old.parts parts
  pub same_place : new.place ≡ old.place
  pub added : new.parts ≡ parts ++ record { level = 0; from = end_of old.place parts; to = place + 1; is_chunk = false; postings = buffer } ∷ []
