-- Which columns can be printed of which rows.
use Rattle.std.specs.Prelude.{IsUtf8, List}
use Rattle.gr_expr.specs.Fits.{FitsPath}
use Rattle.gr_expr.specs.Tables.{Records}
use Rattle.gr_print.specs.declared.out_column.OutColumn.{OutColumn}
use Rattle.gr_print.specs.declared.out_column.OutItem.{OutItem}
use Rattle.gr_print.specs.declared.out_column.OutItem.TheVariants.{At, Score}

-- what a column shows fits the rows
abbrev pub FitsItem : List Records → OutItem → Type 0
FitsItem tables (At path) = FitsPath tables path
FitsItem tables Score = Unit {0}

-- a column has a name that is text, and shows what fits the rows
pub record IsPrintable (tables : List Records) (column : OutColumn) : Type 0 where
  pub name : IsUtf8 column.name
  pub item : FitsItem tables column.item
