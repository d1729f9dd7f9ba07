-- Which layouts can be shown of which rows.
use Rattle.std.specs.Prelude.{ℕ, List, ◌∷◌}
use Rattle.std.specs.List.{AllByRecursion}
use Rattle.std.specs.Str.{byte}
use Rattle.gr_drill.specs.Fits.{IsShowable}
use Rattle.gr_expr.specs.Tables.{Records}
use Rattle.gr_print.specs.Fits.{IsPrintable}
use Rattle.gr_select.specs.declared.layout.Layout.{Layout}

-- the columns and the groups of a layout fit the rows
pub record FitsLayout (tables : List Records) (layout : Layout) : Type 0 where
  pub columns : AllByRecursion (IsPrintable tables) layout.rows.columns
  pub groups : AllByRecursion (IsShowable tables) layout.groups.drilldowns

-- a block behind a comma
abbrev pub behind_comma : List ℕ → List ℕ
behind_comma block = byte "," ∷ block
