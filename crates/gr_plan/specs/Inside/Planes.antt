-- The scores of the records of a block, kept by their binary digits.
use Rattle.std.specs.Prelude.{◌≡◌, ◌<◌, ◌+◌, ◌*◌, ℕ, zero, suc, Bool, if◌then◌else◌, is_some, List, [], ◌++◌}
use Rattle.std.specs.Int.{bit_at}
use Rattle.gr_base.specs.declared.numbers.RecordId.{RecordId}
use Rattle.gr_base.specs.declared.numbers.TableNo.{TableNo}
use Rattle.gr_columns.specs.declared.places.TheConstants.{BLOCK_CELLS}
use Rattle.gr_expr.specs.Seeks.{one_if}
use Rattle.gr_expr.specs.Tables.{Records, record_id, record_in, records_of}
use Rattle.gr_hits.specs.Hits.{Hit}
use Rattle.gr_plan.specs.declared.planes.Planes.{Planes}
use Rattle.gr_plan.specs.Scan.{hit_of}

-- the score at a place of a block, by its digits
abbrev pub score_in : Planes → ℕ → ℕ
score_in planes place = bit_at planes.ones place + 2 * bit_at planes.twos place + 4 * bit_at planes.fours place + 8 * bit_at planes.eights place

-- what a record of an id scores, and 0 where no record is
abbrev pub score_if_there : Records → (RecordId → ℕ) → ℕ → ℕ
score_if_there records score id = if is_some (record_in records id) then score (record_id id) else 0

-- at each place of the block stands what its record scores
abbrev pub AreScores : List Records → TableNo → ℕ → (RecordId → ℕ) → Planes → Type 0
AreScores tables table block score planes = (place : ℕ) → place < BLOCK_CELLS → score_in planes place ≡ score_if_there (records_of tables table) score (BLOCK_CELLS * block + place)

-- the bits of the mask stand where a record is there and this holds of it
abbrev pub IsWhere : List Records → TableNo → ℕ → (RecordId → Bool) → ℕ → Type 0
IsWhere tables table block holds mask = (place : ℕ) → place < BLOCK_CELLS → bit_at mask place ≡ score_if_there (records_of tables table) (λ id. one_if (holds id)) (BLOCK_CELLS * block + place)

-- the hits at the first so many places of a block that begins with this id
unfoldable pub hits_in : ℕ → Planes → ℕ → List Hit
hits_in first planes zero = []
hits_in first planes (suc count) = hits_in first planes count ++ hit_of (record_id (first + count)) (score_in planes count)
