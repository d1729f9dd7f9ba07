-- Match columns that are well made, as their parser makes them and as typing needs them.
use Rattle.std.specs.Prelude.{◌≤◌, ◌<◌, All, List, length, IsUtf8}
use Rattle.gr_ast.specs.declared.columns.MatchColumn.{MatchColumn}
use Rattle.gr_ast.specs.declared.limits.TheConstants.{LEAST_WEIGHT, MOST_WEIGHT}

-- the path is UTF-8, and the weight is one that a column may have
pub record IsMadeColumn (of : MatchColumn) : Type 0 where
  pub path : IsUtf8 of.path
  pub least : LEAST_WEIGHT ≤ of.weight
  pub most : of.weight ≤ MOST_WEIGHT

-- there is a column, and each one is well made
pub record AreMadeColumns (columns : List MatchColumn) : Type 0 where
  pub some : 0 < length columns
  pub each : All IsMadeColumn columns
