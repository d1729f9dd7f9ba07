-- What holds of every table.
use Rattle.std.specs.Prelude.{◌≡◌, ℕ, Some, None, Option, length, slice_get}
use Rattle.gr_values.specs.Fits.{IsCellOf}
use Rattle.gr_expr.specs.Tables.{Record, id_in, record_id, record_in}
use Rattle.gr_table.specs.Table.{IsKeyIn, TableOf}
use Rattle.gr_values.specs.declared.data_type.Shape.{Shape}
use Rattle.gr_values.specs.declared.value.Cell.{Cell}
use Rattle.gr_values.specs.declared.value.Key.{Key}

-- a cell exactly where the column holds data, and then of its shape
abbrev pub IsCellIn : Option Shape → Option Cell → Type 0
IsCellIn None cell = cell ≡ None
IsCellIn (Some shape) None = ⊥
IsCellIn (Some shape) (Some cell) = IsCellOf shape cell

-- a living record has a key of its table's type, and a cell for each column
pub record IsRecord (table : TableOf) (found : Record) : Type 0 where
  pub keyed : IsKeyIn table.key found.key
  pub wide : length found.cells ≡ length table.shapes
  pub cells : (n : ℕ) (shape : Option Shape) (cell : Option Cell) → slice_get table.shapes n ≡ Some shape → slice_get found.cells n ≡ Some cell → IsCellIn shape cell

-- each living record is one of its table, and is found by its key
pub record IsTable (table : TableOf) : Type 0 where
  pub records : (id : ℕ) (found : Record) → record_in table.records id ≡ Some found → IsRecord table found
  pub distinct : (id : ℕ) (found : Record) (key : Key) → record_in table.records id ≡ Some found → found.key ≡ Some key → id_in table.records key ≡ Some (record_id id)
