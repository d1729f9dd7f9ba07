-- Masks over the records of a block of ids of a table.
use Rattle.std.specs.Prelude.{◌<◌, ◌+◌, ◌*◌, ◌^◌, ◌↔◌, ℕ, ℤ, IsTrue, IsBitSet, List}
use Rattle.gr_base.specs.declared.compare.Cmp.{Cmp}
use Rattle.gr_base.specs.declared.numbers.ColumnNo.{ColumnNo}
use Rattle.gr_base.specs.declared.numbers.TableNo.{TableNo}
use Rattle.gr_columns.specs.declared.places.TheConstants.{BLOCK_CELLS}
use Rattle.gr_expr.specs.Tables.{Records, records_of}
use Rattle.gr_table.specs.Masks.{compares_in}

-- each bit of the mask says whether the record at its place in the block is there and holds a whole number that compares so, and no bit is above them
pub record IsMask (tables : List Records) (table : TableNo) (column : ColumnNo) (block : ℕ) (cmp : Cmp) (against : ℤ) (mask : ℕ) : Type 0 where
  pub bits : (place : ℕ) → place < BLOCK_CELLS → (IsBitSet mask place ↔ IsTrue (compares_in (records_of tables table) column cmp against (BLOCK_CELLS * block + place)))
  pub higher : mask < 2 ^ BLOCK_CELLS
