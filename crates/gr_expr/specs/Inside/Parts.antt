-- Parts of a condition that fit the rows.
use Rattle.std.specs.Prelude.{List}
use Rattle.gr_expr.specs.declared.typed.CombinedTerm.{CombinedTerm, every-CombinedTerm}
use Rattle.gr_expr.specs.declared.typed.JoinedExpr.{JoinedExpr, every-JoinedExpr}
use Rattle.gr_expr.specs.declared.typed.Term.{Term, every-Term}
use Rattle.gr_expr.specs.Fits.{AnyCombined, AnyJoined, FitsExprLayer, FitsTermLayer}
use Rattle.gr_expr.specs.Tables.{Records}

-- all paths of a term
abbrev pub FitsTerm : List Records → Term → Type 0
FitsTerm tables = every-Term (FitsExprLayer tables) (FitsTermLayer tables) AnyCombined AnyJoined

-- all paths of a number of a calculation
abbrev pub FitsCombined : List Records → CombinedTerm → Type 0
FitsCombined tables = every-CombinedTerm (FitsExprLayer tables) (FitsTermLayer tables) AnyCombined AnyJoined

-- all paths of a condition of a chain
abbrev pub FitsJoined : List Records → JoinedExpr → Type 0
FitsJoined tables = every-JoinedExpr (FitsExprLayer tables) (FitsTermLayer tables) AnyCombined AnyJoined
