-- Room in a level, and the folds that make it, with the counts of levels that they leave.
use Rattle.std.specs.Prelude.{◌≡◌, ℕ, ◌+◌, ◌<◌, Bool}
use Rattle.std.specs.List.{count_by}
use Rattle.gr_base.specs.declared.numbers.RecordId.{RecordId}
use Rattle.gr_index.specs.declared.limits.TheConstants.{FOLDED_SEGMENTS, MOST_SEGMENTS}
use Rattle.gr_index.specs.Added.{FoldsOldest, HasRoom}
use Rattle.gr_index.specs.Levels.{Levels, end_of, is_of_level}

-- the oldest of a level were folded; the lower levels and the end stayed
pub record Folds (lives : RecordId → ℕ → Bool) (level : ℕ) (old new : Levels) : Type 0 where
  pub folds : FoldsOldest lives level old.parts new.parts
  pub same_place : new.place ≡ old.place
  pub same_end : end_of new.place new.parts ≡ end_of old.place old.parts
  pub fewer : count_by (is_of_level level) new.parts + FOLDED_SEGMENTS ≡ count_by (is_of_level level) old.parts
  pub lower : (l : ℕ) → l < level → count_by (is_of_level l) new.parts ≡ count_by (is_of_level l) old.parts

-- the level has room now; the lower levels and the end stayed
pub record HasRoomAt (lives : RecordId → ℕ → Bool) (level : ℕ) (old new : Levels) : Type 0 where
  pub has : HasRoom lives level old.parts new.parts
  pub same_place : new.place ≡ old.place
  pub same_end : end_of new.place new.parts ≡ end_of old.place old.parts
  pub room : count_by (is_of_level level) new.parts < MOST_SEGMENTS
  pub lower : (l : ℕ) → l < level → count_by (is_of_level l) new.parts ≡ count_by (is_of_level l) old.parts
