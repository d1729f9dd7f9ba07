-- Which drilldowns can be shown over which rows.
use Rattle.std.specs.Prelude.{IsUtf8, List}
use Rattle.std.specs.List.{AllByRecursion}
use Rattle.gr_drill.specs.declared.drilldown.Drilldown.{Drilldown}
use Rattle.gr_drill.specs.declared.drilldown.GroupColumn.{GroupColumn}
use Rattle.gr_drill.specs.declared.drilldown.GroupItem.{GroupItem}
use Rattle.gr_drill.specs.declared.drilldown.GroupItem.TheVariants.{At, Count, Id, Key}
use Rattle.gr_expr.specs.Fits.{FitsPath}
use Rattle.gr_expr.specs.Tables.{Records}

-- what is shown of a group fits the rows
abbrev pub FitsItem : List Records → GroupItem → Type 0
FitsItem tables Key = Unit {0}
FitsItem tables Count = Unit {0}
FitsItem tables Id = Unit {0}
FitsItem tables (At path) = FitsPath tables path

-- a column has a name that is text, and shows what fits the rows
pub record IsShown (tables : List Records) (column : GroupColumn) : Type 0 where
  pub name : IsUtf8 column.name
  pub item : FitsItem tables column.item

-- the key and the columns of a drilldown fit the rows
pub record IsShowable (tables : List Records) (drilldown : Drilldown) : Type 0 where
  pub key : FitsPath tables drilldown.key
  pub columns : AllByRecursion (IsShown tables) drilldown.columns
