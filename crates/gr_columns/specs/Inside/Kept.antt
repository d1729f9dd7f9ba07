-- The cells that each kind keeps, which shape a kind is for, and what a change changes.
use Rattle.std.specs.Prelude.{◌≡◌, ◌≢◌, ⊤, ℕ, pos, true, false, Bool, List, [], map, slice_index_or}
use Rattle.gr_values.specs.declared.data_type.DataType.{DataType}
use Rattle.gr_values.specs.declared.data_type.DataType.TheVariants.{UInt64}
use Rattle.gr_values.specs.declared.data_type.Shape.{Shape}
use Rattle.gr_values.specs.declared.value.Cell.{Cell}
use Rattle.gr_values.specs.Defaults.{default_of}
use Rattle.gr_columns.specs.declared.kept.Kept.{Kept}
use Rattle.gr_columns.specs.declared.kept.Kept.TheVariants.{Signed, Unsigned, Truths, Texts, Refs, RefLists, IntLists, TextLists}
use Rattle.gr_values.specs.Fits.{IsCellOf}
use Rattle.gr_columns.specs.Inside.Holds.{HoldsIntList, HoldsRef, HoldsRefList, HoldsSigned, HoldsText, HoldsTextList, HoldsTruth, HoldsUnsigned}

-- the cells by place
abbrev pub cells_of : Kept → List Cell
cells_of (Signed numbers) = map Cell.Int numbers.1
cells_of (Unsigned numbers) = map (λ number. Cell.Int (pos number)) numbers.1
cells_of (Truths truths) = map Cell.Bool truths.1
cells_of (Texts texts) = map Cell.Text texts.1
cells_of (Refs ids) = map Cell.Ref ids.1
cells_of (RefLists lists) = map Cell.RefList lists.1
cells_of (IntLists lists) = map Cell.IntList lists.1
cells_of (TextLists lists) = map Cell.TextList lists.1

-- the cell at a place that was never set
abbrev pub blank_cell : Kept → Cell
blank_cell (Signed numbers) = Cell.Int numbers.0
blank_cell (Unsigned numbers) = Cell.Int (pos numbers.0)
blank_cell (Truths truths) = Cell.Bool truths.0
blank_cell (Texts texts) = Cell.Text texts.0
blank_cell (Refs ids) = Cell.Ref ids.0
blank_cell (RefLists lists) = Cell.RefList lists.0
blank_cell (IntLists lists) = Cell.IntList lists.0
blank_cell (TextLists lists) = Cell.TextList lists.0

-- the cell at a place
abbrev pub kept_at : Kept → ℕ → Cell
kept_at kept i = slice_index_or (cells_of kept) i (blank_cell kept)

-- whether a type needs 64 bits from 0 on
abbrev pub is_wide : DataType → Bool
is_wide UInt64 = true
is_wide _ = false

-- numbers of the types that need 64 bits from 0 on are unsigned, and those of the others signed
abbrev pub HasLanes : DataType → Kept → Type 0
HasLanes of (Signed numbers) = is_wide of ≡ false
HasLanes of (Unsigned numbers) = is_wide of ≡ true
HasLanes of _ = ⊤

-- the kind is the shape's: its blank cell is the default, its lanes are those of the type, and each cell fits
pub record IsKeptOf (shape : Shape) (kept : Kept) : Type 0 where
  pub blank : blank_cell kept ≡ default_of shape
  pub lanes : HasLanes shape.of kept
  pub fits : (i : ℕ) → IsCellOf shape (kept_at kept i)

-- no cell is kept yet, and the kind is the shape's
pub record IsNewKept (shape : Shape) (kept : Kept) : Type 0 where
  pub none : cells_of kept ≡ []
  pub blank : blank_cell kept ≡ default_of shape
  pub lanes : HasLanes shape.of kept

-- the cell holds what the kind keeps
abbrev pub Takes : Kept → Cell → Type 0
Takes (Signed numbers) cell = HoldsSigned cell
Takes (Unsigned numbers) cell = HoldsUnsigned cell
Takes (Truths truths) cell = HoldsTruth cell
Takes (Texts texts) cell = HoldsText cell
Takes (Refs ids) cell = HoldsRef cell
Takes (RefLists lists) cell = HoldsRefList cell
Takes (IntLists lists) cell = HoldsIntList cell
Takes (TextLists lists) cell = HoldsTextList cell

-- the kind stays, the place has this cell, and each other place that of the old ones
pub record SetsKept (old new : Kept) (i : ℕ) (cell : Cell) : Type 0 where
  pub blank : blank_cell new ≡ blank_cell old
  pub lanes : (of : DataType) → HasLanes of old → HasLanes of new
  pub here : kept_at new i ≡ cell
  pub elsewhere : (other : ℕ) → other ≢ i → kept_at new other ≡ kept_at old other
