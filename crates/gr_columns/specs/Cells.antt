-- The cells of a column by record id, which cells it takes, and what a change changes.
use Rattle.std.specs.Prelude.{◌≡◌, ◌≢◌, List, slice_index_or}
use Rattle.gr_base.specs.declared.numbers.RecordId.{RecordId}
use Rattle.gr_values.specs.declared.data_type.Shape.{Shape}
use Rattle.gr_values.specs.declared.value.Cell.{Cell}
use Rattle.gr_values.specs.Defaults.{default_of}

-- a column: what each cell holds, and the cells by id as far as the column reaches
pub record ColumnOf : Type 0 where
  pub shape : Shape
  pub cells : List Cell

-- the cell of an id; an id that the column does not reach has the default
abbrev pub cell_at : ColumnOf → RecordId → Cell
cell_at column id = slice_index_or column.cells id.0 (default_of column.shape)

-- the new column has this cell at the id, and at each other id the cell of the old one
pub record SetsCell (old new : ColumnOf) (id : RecordId) (cell : Cell) : Type 0 where
  pub shape : new.shape ≡ old.shape
  pub here : cell_at new id ≡ cell
  pub elsewhere : (other : RecordId) → other ≢ id → cell_at new other ≡ cell_at old other
