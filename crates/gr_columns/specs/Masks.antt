-- Masks over the cells of a block.
use Rattle.std.specs.Prelude.{◌<◌, ◌+◌, ◌*◌, ◌^◌, ◌↔◌, ◌&&◌, ℕ, ℤ, Bool, false, not, is_some, IsTrue, IsBitSet}
use Rattle.gr_base.specs.declared.compare.Cmp.{Cmp}
use Rattle.gr_lanes.specs.Mask.{compares_signed}
use Rattle.gr_values.specs.declared.data_type.Shape.{Shape}
use Rattle.gr_values.specs.declared.value.Cell.{Cell}
use Rattle.gr_values.specs.Types.{range_of}
use Rattle.gr_columns.specs.declared.places.TheConstants.{BLOCK_CELLS}
use Rattle.gr_columns.specs.Cells.{ColumnOf, cell_at}

-- whether a cell holds one whole number
abbrev pub is_whole : Shape → Bool
is_whole shape = not shape.list && not shape.reference && is_some (range_of shape.of)

-- whether a cell holds a number that compares so
abbrev pub compares_cell : Cmp → ℤ → Cell → Bool
compares_cell cmp against (Cell.Bool truth) = false
compares_cell cmp against (Cell.Int number) = compares_signed cmp against number
compares_cell cmp against (Cell.Text text) = false
compares_cell cmp against (Cell.Ref id) = false
compares_cell cmp against (Cell.RefList ids) = false
compares_cell cmp against (Cell.IntList numbers) = false
compares_cell cmp against (Cell.TextList texts) = false

-- each bit of the mask says whether the cell at its place in the block compares so, and no bit is above them
pub record IsBlockMask (column : ColumnOf) (block : ℕ) (cmp : Cmp) (against : ℤ) (mask : ℕ) : Type 0 where
  pub bits : (place : ℕ) → place < BLOCK_CELLS → (IsBitSet mask place ↔ IsTrue (compares_cell cmp against (cell_at column (record { 0 = BLOCK_CELLS * block + place }))))
  pub higher : mask < 2 ^ BLOCK_CELLS
