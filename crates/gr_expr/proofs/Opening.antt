-- A condition that fits, taken apart: what is in it fits too.
use Rattle.std.proofs.Common.{◌≡◌, ℕ, zero, suc, ◌<◌, length, get_or, arith, List, [], ◌∷◌, map, subst, ap, ◌∙◌}
use Rattle.std.specs.List.{AllByRecursion}
use Rattle.gr_expr.specs.declared.typed.CombinedTerm.{CombinedTerm, every_held-CombinedTerm, out-CombinedTerm}
use Rattle.gr_expr.specs.declared.typed.Expr.{Expr, every_here-Expr, every_held-Expr, out-Expr, out-roll-Expr, roll-Expr}
use Rattle.gr_expr.specs.declared.typed.Expr.TheFolds.{map-Expr, map-Term}
use Rattle.gr_expr.specs.declared.typed.Expr.TheOpen.{CombinedTerm-F, Expr-F, JoinedExpr-F, Term-F}
use Rattle.gr_expr.specs.declared.typed.JoinedExpr.{JoinedExpr, every_held-JoinedExpr, out-JoinedExpr}
use Rattle.gr_expr.specs.declared.typed.Term.{Term, every_here-Term, every_held-Term, out-Term, out-roll-Term, roll-Term}
use Rattle.gr_expr.specs.Fits.{AnyCombined, AnyJoined, Fits, FitsExprLayer, FitsTermLayer}
use Rattle.gr_expr.specs.Inside.Parts.{FitsCombined, FitsJoined, FitsTerm}
use Rattle.gr_expr.specs.Tables.{Records}

-- the conditions and terms in a condition fit
abbrev pub ExprParts : List Records → Expr-F Expr Term CombinedTerm JoinedExpr → Type 0
ExprParts tables (Expr-F.Chain first rest) = Fits tables first × AllByRecursion (FitsJoined tables) rest
ExprParts tables (Expr-F.Not of) = Fits tables of
ExprParts tables (Expr-F.Compare cmp left right) = FitsTerm tables left × FitsTerm tables right
ExprParts tables (Expr-F.Between value low with_low high with_high) = FitsTerm tables value × FitsTerm tables low × FitsTerm tables high
ExprParts tables (Expr-F.InValues value others) = FitsTerm tables value × AllByRecursion (FitsTerm tables) others
ExprParts tables _ = Unit {0}

-- and those in a term
abbrev pub TermParts : List Records → Term-F Expr Term CombinedTerm JoinedExpr → Type 0
TermParts tables (Term-F.«Term::Truth» expr) = Fits tables expr
TermParts tables (Term-F.Calc first rest) = FitsTerm tables first × AllByRecursion (FitsCombined tables) rest
TermParts tables (Term-F.Minus of) = FitsTerm tables of
TermParts tables _ = Unit {0}

-- elements with what holds of them
all_held : {X : Type 0} (P : X → Type 0) (held : List ((x : X) × P x)) → AllByRecursion P (map (λ e. e.0) held)
all_held P [] = tt
all_held P (e ∷ held) = (e.1, all_held P held)

-- what holds of each element holds at its place
pub all_at : {X : Type 0} (P : X → Type 0) (xs : List X) (i : ℕ) (d : X) → i < length xs → AllByRecursion P xs → P (get_or xs i d)
all_at P [] i d inside all = absurd (omega (arith, inside))
all_at P (x ∷ xs) zero d inside all = all.0
all_at P (x ∷ xs) (suc i) d inside all = all_at P xs i d (omega (arith, inside)) all.1

module _ (tables : List Records) where
  abbrev HeldExpr : Type 0
  HeldExpr = (z : Expr) × Fits tables z

  abbrev HeldTerm : Type 0
  HeldTerm = (z : Term) × FitsTerm tables z

  abbrev HeldCombined : Type 0
  HeldCombined = (z : CombinedTerm) × FitsCombined tables z

  abbrev HeldJoined : Type 0
  HeldJoined = (z : JoinedExpr) × FitsJoined tables z

  expr_held : (y : Expr-F HeldExpr HeldTerm HeldCombined HeldJoined) → ExprParts tables (map-Expr HeldExpr HeldTerm HeldCombined HeldJoined Expr Term CombinedTerm JoinedExpr (λ e. e.0) (λ e. e.0) (λ e. e.0) (λ e. e.0) y)
  expr_held Expr-F.All = tt
  expr_held (Expr-F.«Expr::Truth» truth) = tt
  expr_held (Expr-F.Flag path) = tt
  expr_held (Expr-F.Chain first rest) = (first.1, all_held (FitsJoined tables) rest)
  expr_held (Expr-F.Not of) = of.1
  expr_held (Expr-F.Compare cmp left right) = (left.1, right.1)
  expr_held (Expr-F.Between value low with_low high with_high) = (value.1, low.1, high.1)
  expr_held (Expr-F.InValues value others) = (value.1, all_held (FitsTerm tables) others)
  expr_held (Expr-F.Seek leaf) = tt
  expr_held (Expr-F.Weighted leaves) = tt

  term_held : (y : Term-F HeldExpr HeldTerm HeldCombined HeldJoined) → TermParts tables (map-Term HeldExpr HeldTerm HeldCombined HeldJoined Expr Term CombinedTerm JoinedExpr (λ e. e.0) (λ e. e.0) (λ e. e.0) (λ e. e.0) y)
  term_held (Term-F.Literal literal) = tt
  term_held (Term-F.Cell path) = tt
  term_held (Term-F.«Term::Truth» expr) = expr.1
  term_held (Term-F.Calc first rest) = (first.1, all_held (FitsCombined tables) rest)
  term_held (Term-F.Minus of) = of.1

  -- what is in a condition that fits
  pub expr_parts : (d : Expr) → Fits tables d → ExprParts tables (out-Expr d)
  expr_parts d fits =
      let held = every_held-Expr (FitsExprLayer tables) (FitsTermLayer tables) AnyCombined AnyJoined d fits in
      subst (ExprParts tables) held.1 (expr_held held.0)

  -- its own paths
  pub expr_layer : (d : Expr) → Fits tables d → FitsExprLayer tables (out-Expr d)
  expr_layer d fits = every_here-Expr (FitsExprLayer tables) (FitsTermLayer tables) AnyCombined AnyJoined d fits

  -- what is in a term that fits
  pub term_parts : (d : Term) → FitsTerm tables d → TermParts tables (out-Term d)
  term_parts d fits =
      let held = every_held-Term (FitsExprLayer tables) (FitsTermLayer tables) AnyCombined AnyJoined d fits in
      subst (TermParts tables) held.1 (term_held held.0)

  -- its own path
  pub term_layer : (d : Term) → FitsTerm tables d → FitsTermLayer tables (out-Term d)
  term_layer d fits = every_here-Term (FitsExprLayer tables) (FitsTermLayer tables) AnyCombined AnyJoined d fits

  -- the number of a calculation
  pub combined_part : (d : CombinedTerm) → FitsCombined tables d → FitsTerm tables (out-CombinedTerm d).of
  combined_part d fits =
      let held = every_held-CombinedTerm (FitsExprLayer tables) (FitsTermLayer tables) AnyCombined AnyJoined d fits in
      subst (λ (layer : CombinedTerm-F Expr Term CombinedTerm JoinedExpr). FitsTerm tables layer.of) held.1 held.0.of.1

  -- the condition of a chain
  pub joined_part : (d : JoinedExpr) → FitsJoined tables d → Fits tables (out-JoinedExpr d).of
  joined_part d fits =
      let held = every_held-JoinedExpr (FitsExprLayer tables) (FitsTermLayer tables) AnyCombined AnyJoined d fits in
      subst (λ (layer : JoinedExpr-F Expr Term CombinedTerm JoinedExpr). Fits tables layer.of) held.1 held.0.of.1

  -- the same where it is known what the condition is
  pub expr_is : (d : Expr) (layer : Expr-F Expr Term CombinedTerm JoinedExpr) → d ≡ roll-Expr layer → Fits tables d → ExprParts tables layer
  expr_is d layer is fits = subst (ExprParts tables) (ap out-Expr is ∙ out-roll-Expr layer) (expr_parts d fits)

  pub expr_is_here : (d : Expr) (layer : Expr-F Expr Term CombinedTerm JoinedExpr) → d ≡ roll-Expr layer → Fits tables d → FitsExprLayer tables layer
  expr_is_here d layer is fits = subst (FitsExprLayer tables) (ap out-Expr is ∙ out-roll-Expr layer) (expr_layer d fits)

  -- the same of a term
  pub term_is : (d : Term) (layer : Term-F Expr Term CombinedTerm JoinedExpr) → d ≡ roll-Term layer → FitsTerm tables d → TermParts tables layer
  term_is d layer is fits = subst (TermParts tables) (ap out-Term is ∙ out-roll-Term layer) (term_parts d fits)
