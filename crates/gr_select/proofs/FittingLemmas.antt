-- A query and a filter that fit the rows fit them together.
use Rattle.std.proofs.Common.{Option, Some, None, IfSome, List, [], ◌∷◌, refl, subst}
use Rattle.gr_ast.specs.declared.operators.Join.TheVariants.{And}
use Rattle.gr_expr.specs.declared.typed.Expr.{Expr, every_made-Expr}
use Rattle.gr_expr.specs.declared.typed.Expr.TheOpen.{Expr-F}
use Rattle.gr_expr.specs.declared.typed.Expr.TheVariants as expr
use Rattle.gr_expr.specs.declared.typed.JoinedExpr.{every_made-JoinedExpr}
use Rattle.gr_expr.specs.Fits.{AnyCombined, AnyJoined, Fits, FitsExprLayer, FitsTermLayer}
use Rattle.gr_expr.specs.Inside.Parts.{FitsJoined}
use Rattle.gr_expr.specs.Tables.{Records}
use Rattle.gr_select.specs.Condition.{and, both}

module _ (tables : List Records) where
  Fits-all : Fits tables expr.All
  Fits-all = subst (Fits tables) expr.rolls-All (every_made-Expr (FitsExprLayer tables) (FitsTermLayer tables) AnyCombined AnyJoined Expr-F.All Expr-F.All refl tt)

  Fits-and : (filter : Expr) → Fits tables filter → FitsJoined tables (and filter)
  Fits-and filter fits = every_made-JoinedExpr (FitsExprLayer tables) (FitsTermLayer tables) AnyCombined AnyJoined (record { join = And; of = filter }) (record { join = And; of = (filter, fits) }) refl tt

  pub Fits-both : (query filter : Option Expr) → IfSome query (Fits tables) → IfSome filter (Fits tables) → Fits tables (both query filter)
  Fits-both None None none nothing = Fits-all
  Fits-both (Some query) None fits none = fits
  Fits-both None (Some filter) none fits = fits
  Fits-both (Some query) (Some filter) fits other =
      subst (Fits tables) (expr.rolls-Chain query (and filter ∷ []))
      (every_made-Expr (FitsExprLayer tables) (FitsTermLayer tables) AnyCombined AnyJoined (Expr-F.Chain query (and filter ∷ [])) (Expr-F.Chain (query, fits) ((and filter, Fits-and filter other) ∷ [])) refl tt)
