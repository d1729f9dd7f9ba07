-- Masks over the records of a block of ids, and the records that a prefix of their keys finds.
use Rattle.std.specs.Prelude.{◌≡◌, ◌==◌, ◌<◌, ◌+◌, ◌*◌, ◌^◌, ◌↔◌, ℕ, ℤ, Bool, true, false, IsTrue, IsBitSet, Option, Some, List, map, slice_get}
use Rattle.std.specs.List.{Contains, starts_with}
use Rattle.std.specs.List.Sorted.{IsStrictlyIncreasing}
use Rattle.std.specs.Option.{option_and_then, option_flatten, option_map_or}
use Rattle.gr_base.specs.declared.compare.Cmp.{Cmp}
use Rattle.gr_base.specs.declared.numbers.ColumnNo.{ColumnNo}
use Rattle.gr_base.specs.declared.numbers.RecordId.{RecordId}
use Rattle.gr_columns.specs.declared.places.TheConstants.{BLOCK_CELLS}
use Rattle.gr_columns.specs.Masks.{compares_cell, is_whole}
use Rattle.gr_expr.specs.Tables.{Record, Records, record_in}
use Rattle.gr_table.specs.Table.{TableOf}
use Rattle.gr_values.specs.declared.data_type.Shape.{Shape}
use Rattle.gr_values.specs.declared.value.Key.{Key}

-- what a record holds in a column compares so; a record that is not there does not
abbrev pub compares_in : Records → ColumnNo → Cmp → ℤ → ℕ → Bool
compares_in records column cmp against id =
    option_map_or (compares_cell cmp against) (option_and_then (λ found. option_flatten (slice_get found.cells column.0)) (record_in records id)) false

-- whether each record has one whole number in the column
abbrev pub is_whole_column : List (Option Shape) → ColumnNo → Bool
is_whole_column shapes column = option_map_or is_whole (option_flatten (slice_get shapes column.0)) false

-- each bit of the mask says whether the record at its place in the block is there and compares so, and no bit is above them
pub record IsRecordMask (table : TableOf) (column : ColumnNo) (block : ℕ) (cmp : Cmp) (against : ℤ) (mask : ℕ) : Type 0 where
  pub bits : (place : ℕ) → place < BLOCK_CELLS → (IsBitSet mask place ↔ IsTrue (compares_in table.records column cmp against (BLOCK_CELLS * block + place)))
  pub higher : mask < 2 ^ BLOCK_CELLS

-- a living record's key begins with the prefix
pub record HasPrefix (records : Records) (prefix : List ℕ) (id : RecordId) : Type 0 where
  pub found : Record
  pub there : record_in records id.0 ≡ Some found
  pub text : List ℕ
  pub key : found.key ≡ Some (Key.Text text)
  pub begins : starts_with ◌==◌ text prefix ≡ true

-- the ids of all records whose key begins with the prefix, each once, in ascending order
pub record AreWithPrefix (records : Records) (prefix : List ℕ) (ids : List RecordId) : Type 0 where
  pub ascending : IsStrictlyIncreasing (map (λ id. id.0) ids)
  pub sound : (id : RecordId) → Contains ids id → HasPrefix records prefix id
  pub complete : (id : RecordId) → HasPrefix records prefix id → Contains ids id
