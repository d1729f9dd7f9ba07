-- Small conditions that fit all rows.
use Rattle.std.proofs.Common.{ℤ, Bool, false, List, [], ◌∷◌, ◌≡◌, None, refl, sym, subst}
use Rattle.gr_base.specs.declared.compare.Cmp.{Cmp}
use Rattle.gr_expr.specs.declared.Join.{Join}
use Rattle.gr_expr.specs.declared.typed.Expr.{Expr, every_made-Expr}
use Rattle.gr_expr.specs.declared.typed.Expr.TheOpen.{Expr-F, Term-F}
use Rattle.gr_expr.specs.declared.typed.Expr.TheVariants as expr
use Rattle.gr_expr.specs.declared.typed.JoinedExpr.{JoinedExpr, every_made-JoinedExpr, roll-JoinedExpr}
use Rattle.gr_expr.specs.declared.typed.Literal.{Literal}
use Rattle.gr_expr.specs.declared.typed.Term.{every_made-Term}
use Rattle.gr_expr.specs.declared.typed.Term.TheVariants as term
use Rattle.gr_expr.specs.Fits.{AnyCombined, AnyJoined, Fits, FitsExprLayer, FitsPath, FitsTermLayer, IsWritten}
use Rattle.gr_expr.specs.Inside.Parts.{FitsJoined, FitsTerm}
use Rattle.gr_expr.specs.Tables.{Records}
use Rattle.gr_values.specs.declared.path.Field.{Field}
use Rattle.gr_values.specs.declared.path.Path.{Path}

-- a condition behind what joins it
abbrev pub link : Join → Expr → JoinedExpr
link join of = roll-JoinedExpr (record { join = join; of = of })

module _ (tables : List Records) where
  pub Fits-all : Fits tables expr.All
  Fits-all = subst (Fits tables) expr.rolls-All (every_made-Expr (FitsExprLayer tables) (FitsTermLayer tables) AnyCombined AnyJoined Expr-F.All Expr-F.All refl tt)

  pub Fits-truth : (truth : Bool) → Fits tables (expr.Truth truth)
  Fits-truth truth = subst (Fits tables) (expr.rolls-Truth truth) (every_made-Expr (FitsExprLayer tables) (FitsTermLayer tables) AnyCombined AnyJoined (Expr-F.«Expr::Truth» truth) (Expr-F.«Expr::Truth» truth) refl tt)

  pub Fits-not : (of : Expr) → Fits tables of → Fits tables (expr.Not of)
  Fits-not of fits = subst (Fits tables) (expr.rolls-Not of) (every_made-Expr (FitsExprLayer tables) (FitsTermLayer tables) AnyCombined AnyJoined (Expr-F.Not of) (Expr-F.Not (of, fits)) refl tt)

  Fits-cell : (path : Path) → FitsPath tables path → FitsTerm tables (term.Cell path)
  Fits-cell path fits = subst (FitsTerm tables) (term.rolls-Cell path) (every_made-Term (FitsExprLayer tables) (FitsTermLayer tables) AnyCombined AnyJoined (Term-F.Cell path) (Term-F.Cell path) refl fits)

  Fits-literal : (literal : Literal) → IsWritten literal → FitsTerm tables (term.Literal literal)
  Fits-literal literal written = subst (FitsTerm tables) (term.rolls-Literal literal) (every_made-Term (FitsExprLayer tables) (FitsTermLayer tables) AnyCombined AnyJoined (Term-F.Literal literal) (Term-F.Literal literal) refl written)

  -- the id of the record itself
  FitsPath-id : (path : Path) → path.through ≡ [] → path.last ≡ Field.Id → path.to ≡ None → path.shape.reference ≡ false → FitsPath tables path
  FitsPath-id path through last to reference = record {
    hops = rw through tt;
    field = rw last tt;
    target = rw to reference;
  }

  pub Fits-compare : (cmp : Cmp) (path : Path) (number : ℤ) → path.through ≡ [] → path.last ≡ Field.Id → path.to ≡ None → path.shape.reference ≡ false → Fits tables (expr.Compare cmp (term.Cell path) (term.Literal (Literal.Number number)))
  Fits-compare cmp path number through last to reference =
      let left = term.Cell path in
      let right = term.Literal (Literal.Number number) in
      subst (Fits tables) (expr.rolls-Compare cmp left right)
      (every_made-Expr (FitsExprLayer tables) (FitsTermLayer tables) AnyCombined AnyJoined (Expr-F.Compare cmp left right) (Expr-F.Compare cmp (left, Fits-cell path (FitsPath-id path through last to reference)) (right, Fits-literal (Literal.Number number) tt)) refl tt)

  Fits-link : (join : Join) (of : Expr) → Fits tables of → FitsJoined tables (link join of)
  Fits-link join of fits = every_made-JoinedExpr (FitsExprLayer tables) (FitsTermLayer tables) AnyCombined AnyJoined (record { join = join; of = of }) (record { join = join; of = (of, fits) }) refl tt

  pub Fits-joined : (first : Expr) (join : Join) (of : Expr) (rest : List JoinedExpr) → rest ≡ link join of ∷ [] → Fits tables first → Fits tables of → Fits tables (expr.Chain first rest)
  Fits-joined first join of rest is fits other =
      subst (λ (rest : List JoinedExpr). Fits tables (expr.Chain first rest)) (sym is)
      (subst (Fits tables) (expr.rolls-Chain first (link join of ∷ []))
      (every_made-Expr (FitsExprLayer tables) (FitsTermLayer tables) AnyCombined AnyJoined (Expr-F.Chain first (link join of ∷ [])) (Expr-F.Chain (first, fits) ((link join of, Fits-link join of other) ∷ [])) refl tt))
