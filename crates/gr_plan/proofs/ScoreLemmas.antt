-- A score is at most the highest.
use Rattle.std.proofs.Common.{ℕ, ◌≤◌, true, false, List, [], ◌∷◌, subst, arith}
use Rattle.std.specs.Prelude.{Bool, nat_lt, ◌+◌, ◌==◌, ◌&&◌, if◌then◌else◌, map}
use Rattle.gr_expr.specs.declared.Arith.{Arith}
use Rattle.gr_expr.specs.declared.Join.{Join}
use Rattle.gr_expr.specs.declared.Join.TheVariants.{And, Or, Without}
use Rattle.gr_base.specs.declared.limits.TheConstants.{MOST_SCORE}
use Rattle.gr_base.specs.declared.numbers.RecordId.{RecordId}
use Rattle.gr_expr.specs.declared.typed.CombinedTerm.{CombinedTerm}
use Rattle.gr_expr.specs.declared.typed.Expr.{Expr}
use Rattle.gr_expr.specs.declared.typed.Expr.TheFolds.{fold-roll-Expr, ind-Expr, map-Expr}
use Rattle.gr_expr.specs.declared.typed.Expr.TheOpen.{Expr-F}
use Rattle.gr_expr.specs.declared.typed.JoinedExpr.{JoinedExpr}
use Rattle.gr_expr.specs.declared.typed.Term.{Term}
use Rattle.gr_expr.specs.Score.{chain_score, combined_of, combined_step, joined, joined_of, joined_step, score_of, score_step, worth_of, worth_step}
use Rattle.gr_expr.specs.Seeks.{capped, one_if}
use Rattle.gr_expr.specs.Tables.{Records}
use Rattle.gr_expr.specs.Values.{Worth}

-- scores of which each is at most the highest

capped-most : (score : ℕ) → capped score ≤ MOST_SCORE
capped-most score = omega arith

one_if-most : (holds : Bool) → one_if holds ≤ MOST_SCORE
one_if-most true = omega arith
one_if-most false = omega arith

joined-most : (join : Join) (left right : ℕ) → left ≤ MOST_SCORE → joined join left right ≤ MOST_SCORE
joined-most And left right most = and (nat_lt 0 left && nat_lt 0 right)
  where
    and : (both : Bool) → (if both then capped (left + right) else 0) ≤ MOST_SCORE
    and true = capped-most (left + right)
    and false = omega arith
joined-most Or left right most = capped-most (left + right)
joined-most Without left right most = without (right == 0)
  where
    without : (none : Bool) → (if none then left else 0) ≤ MOST_SCORE
    without true = most
    without false = omega arith

chain_score-most : (first : ℕ) (rest : List (Join × ℕ)) → first ≤ MOST_SCORE → chain_score first rest ≤ MOST_SCORE
chain_score-most first [] most = most
chain_score-most first (next ∷ rest) most = chain_score-most (joined next.0 first next.1) rest (joined-most next.0 first next.1 most)

module _ (tables : List Records) (id : RecordId) where
  abbrev IsLow : Expr → Type 0
  IsLow condition = score_of tables id condition ≤ MOST_SCORE

  abbrev HeldExpr : Type 0
  HeldExpr = (condition : Expr) × IsLow condition

  abbrev HeldTerm : Type 0
  HeldTerm = (term : Term) × Unit {0}

  abbrev HeldCombined : Type 0
  HeldCombined = (term : CombinedTerm) × Unit {0}

  abbrev HeldJoined : Type 0
  HeldJoined = (condition : JoinedExpr) × Unit {0}

  -- the score of one level
  abbrev layer_score : Expr-F Expr Term CombinedTerm JoinedExpr → ℕ
  layer_score layer = score_step tables id (map-Expr Expr Term CombinedTerm JoinedExpr ℕ Worth (Arith × Worth) (Join × ℕ) (score_of tables id) (worth_of tables id) (combined_of tables id) (joined_of tables id) layer)

  layer-most : (layer : Expr-F HeldExpr HeldTerm HeldCombined HeldJoined) → layer_score (map-Expr HeldExpr HeldTerm HeldCombined HeldJoined Expr Term CombinedTerm JoinedExpr (λ e. e.0) (λ e. e.0) (λ e. e.0) (λ e. e.0) layer) ≤ MOST_SCORE
  layer-most Expr-F.All = omega arith
  layer-most (Expr-F.«Expr::Truth» truth) = one_if-most _
  layer-most (Expr-F.Flag path) = one_if-most _
  layer-most (Expr-F.Chain first rest) = chain_score-most (score_of tables id first.0) (map (joined_of tables id) (map (λ (e : HeldJoined). e.0) rest)) first.1
  layer-most (Expr-F.Not of) = one_if-most _
  layer-most (Expr-F.Compare cmp left right) = one_if-most _
  layer-most (Expr-F.Between value low with_low high with_high) = one_if-most _
  layer-most (Expr-F.InValues value others) = one_if-most _
  layer-most (Expr-F.Seek leaf) = capped-most _
  layer-most (Expr-F.Weighted leaves) = capped-most _

  pub score_of-most : (condition : Expr) → score_of tables id condition ≤ MOST_SCORE
  score_of-most = ind-Expr IsLow (λ (term : Term). Unit {0}) (λ (term : CombinedTerm). Unit {0}) (λ (condition : JoinedExpr). Unit {0})
      (λ layer held is.
      rw (fold-roll-Expr ℕ Worth (Arith × Worth) (Join × ℕ) (score_step tables id) (worth_step tables id) combined_step joined_step layer)
      (subst (λ (layer : Expr-F Expr Term CombinedTerm JoinedExpr). layer_score layer ≤ MOST_SCORE) is (layer-most held)))
      (λ layer held is. tt)
      (λ layer held is. tt)
      (λ layer held is. tt)
