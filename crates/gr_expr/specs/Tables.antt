-- The tables of a database, without their schema, as a condition reads them.
use Rattle.std.specs.Prelude.{ℕ, zero, suc, ◌+◌, Bool, false, Option, Some, None, List, [], slice_get}
use Rattle.std.specs.List.{position}
use Rattle.std.specs.Option.{option_and_then, option_flatten, option_map, option_map_or}
use Rattle.gr_base.specs.declared.numbers.ColumnNo.{ColumnNo}
use Rattle.gr_base.specs.declared.numbers.RecordId.{RecordId}
use Rattle.gr_base.specs.declared.numbers.TableNo.{TableNo}
use Rattle.gr_values.specs.declared.value.Cell.{Cell}
use Rattle.gr_values.specs.declared.value.Key.{Key}
use Rattle.gr_values.specs.Same.{is_same_key}

-- a record: its key, where its table is keyed, and what it holds in each column of its table; in an index column it holds nothing
pub record Record : Type 0 where
  pub key : Option Key
  pub cells : List (Option Cell)

-- a table's records by their ids, which count from 1; a deleted one is none, and its id stays given
abbrev pub Records : Type 0
Records = List (Option Record)

-- the id of a number
abbrev pub record_id : ℕ → RecordId
record_id n = record { 0 = n }

-- the record of an id, where there is one
abbrev pub record_in : Records → ℕ → Option Record
record_in records zero = None
record_in records (suc n) = option_flatten (slice_get records n)

-- the records of a table; a table that is not there has none
abbrev pub records_of : List Records → TableNo → Records
records_of tables table = option_map_or (λ records. records) (slice_get tables table.0) []

-- the record of an id of a table, where there is one
abbrev pub record_at : List Records → TableNo → RecordId → Option Record
record_at tables table id = record_in (records_of tables table) id.0

-- its key, where it has one
abbrev pub key_at : List Records → TableNo → RecordId → Option Key
key_at tables table id = option_and_then (λ found. found.key) (record_at tables table id)

-- its cell in a column, where that holds data
abbrev pub cell_at : List Records → TableNo → RecordId → ColumnNo → Option Cell
cell_at tables table id column = option_and_then (λ found. option_flatten (slice_get found.cells column.0)) (record_at tables table id)

-- whether a record is there and has this key
abbrev pub has_key : Key → Option Record → Bool
has_key key None = false
has_key key (Some found) = option_map_or (is_same_key key) found.key false

-- the id of the first record that has this key
abbrev pub id_in : Records → Key → Option RecordId
id_in records key = option_map (λ n. record_id (n + 1)) (position (has_key key) records)
