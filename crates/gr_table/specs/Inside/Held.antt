-- What the parts of a table keep of each other.
use Rattle.std.specs.Prelude.{◌≡◌, ◌≤◌, ◌<◌, ℕ, Bool, true, Option, Some, None, List, slice_get}
use Rattle.std.specs.FinMap.{get}
use Rattle.gr_base.specs.Keys.{KeyMap}
use Rattle.gr_base.specs.declared.numbers.RecordId.{RecordId}
use Rattle.gr_columns.specs.Cells.{ColumnOf, cell_at}
use Rattle.gr_values.specs.Fits.{IsCellOf}
use Rattle.gr_columns.specs.Places.{value_at}
use Rattle.gr_expr.specs.Tables.{record_id}
use Rattle.gr_table.specs.Inside.Bytes.{key_bytes}
use Rattle.gr_table.specs.Table.{IsKeyIn}
use Rattle.gr_values.specs.Defaults.{default_of}
use Rattle.gr_values.specs.declared.data_type.DataType.{DataType}
use Rattle.gr_values.specs.declared.value.Key.{Key}

-- the bytes are those of the key of a record that is alive
pub record IsOfKey (alive : Bool × List Bool) (keys : Option Key × List (Option Key)) (bytes : List ℕ) (id : RecordId) : Type 0 where
  pub living : value_at alive id.0 ≡ true
  pub key : Key
  pub there : value_at keys id.0 ≡ Some key
  pub same : key_bytes key ≡ bytes

-- each cell is of the column's shape, and ids that were not given have the default
pub record IsFilled (given : ℕ) (column : ColumnOf) : Type 0 where
  pub fits : (id : RecordId) → IsCellOf column.shape (cell_at column id)
  pub blank : (n : ℕ) → given < n → cell_at column (record_id n) ≡ default_of column.shape

-- ids that are alive were given and have keys of the type, the map leads from each key to its id and nowhere else, and columns are filled
pub record IsHeld (of : Option DataType) (given : ℕ) (alive : Bool × List Bool) (tree : KeyMap) (keys : Option Key × List (Option Key)) (columns : List (Option ColumnOf)) : Type 0 where
  pub from_one : (n : ℕ) → value_at alive n ≡ true → 1 ≤ n
  pub within : (n : ℕ) → value_at alive n ≡ true → n ≤ given
  pub keyed : (n : ℕ) → value_at alive n ≡ true → IsKeyIn of (value_at keys n)
  pub leads : (n : ℕ) (key : Key) → value_at alive n ≡ true → value_at keys n ≡ Some key → get tree (key_bytes key) ≡ Some (record_id n)
  pub sound : (bytes : List ℕ) (id : RecordId) → get tree bytes ≡ Some id → IsOfKey alive keys bytes id
  pub keyless : of ≡ None → (n : ℕ) → value_at keys n ≡ None
  pub filled : (n : ℕ) (column : ColumnOf) → slice_get columns n ≡ Some (Some column) → IsFilled given column
