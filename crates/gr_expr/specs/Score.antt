-- The score that a condition has at a record. The record is a hit where the score is above 0.
use Rattle.std.specs.Prelude.{ℕ, ◌+◌, ◌*◌, ◌==◌, nat_lt, Bool, true, false, ◌&&◌, if◌then◌else◌, is_some, List, [], ◌∷◌, Some, None}
use Rattle.std.specs.Cmp.Lexicographic.{slice_cmp}
use Rattle.std.specs.List.{list_all, list_any, sum_by}
use Rattle.std.specs.Ordering.{bool_cmp, int_cmp, nat_cmp}
use Rattle.gr_ast.specs.declared.operators.Arith.{Arith}
use Rattle.gr_ast.specs.declared.operators.Join.{Join}
use Rattle.gr_ast.specs.declared.operators.Join.TheVariants.{And, Or, Without}
use Rattle.gr_base.specs.declared.compare.Cmp.{Cmp}
use Rattle.gr_base.specs.declared.compare.Cmp.TheVariants.{Eq, Ne, Lt, Le, Gt, Ge}
use Rattle.gr_base.specs.declared.numbers.RecordId.{RecordId}
use Rattle.gr_base.specs.Compare.{is_met}
use Rattle.gr_expr.specs.declared.typed.CombinedTerm.{CombinedTerm, fold-CombinedTerm}
use Rattle.gr_expr.specs.declared.typed.Expr.{Expr, fold-Expr}
use Rattle.gr_expr.specs.declared.typed.Expr.TheOpen.{CombinedTerm-F, Expr-F, JoinedExpr-F, Term-F}
use Rattle.gr_expr.specs.declared.typed.JoinedExpr.{JoinedExpr, fold-JoinedExpr}
use Rattle.gr_expr.specs.declared.typed.Literal.{Literal}
use Rattle.gr_expr.specs.declared.typed.Term.{Term, fold-Term}
use Rattle.gr_expr.specs.declared.typed.WeightedLeaf.{WeightedLeaf}
use Rattle.gr_expr.specs.Seeks.{capped, one_if, seek_score}
use Rattle.gr_expr.specs.Tables.{Records}
use Rattle.gr_expr.specs.Values.{Worth, calc_worth, minus_worth, path_worth}

-- truths are equal or not, and have no order
abbrev pub is_met_by_truths : Cmp → Bool → Bool → Bool
is_met_by_truths Eq left right = is_met Eq (bool_cmp left right)
is_met_by_truths Ne left right = is_met Ne (bool_cmp left right)
is_met_by_truths Lt left right = false
is_met_by_truths Le left right = false
is_met_by_truths Gt left right = false
is_met_by_truths Ge left right = false

-- two values of one kind: numbers are ordered as numbers, texts by their bytes; values of two kinds meet no comparison
abbrev pub is_met_by : Cmp → Literal → Literal → Bool
is_met_by cmp (Literal.Number left) (Literal.Number right) = is_met cmp (int_cmp left right)
is_met_by cmp (Literal.Text left) (Literal.Text right) = is_met cmp (slice_cmp nat_cmp left right)
is_met_by cmp (Literal.Truth left) (Literal.Truth right) = is_met_by_truths cmp left right
is_met_by cmp _ _ = false

-- a comparison with no value does not hold
abbrev pub holds : Cmp → Worth → Worth → Bool
holds cmp (Some left) (Some right) = is_met_by cmp left right
holds cmp None right = false
holds cmp (Some left) None = false

-- how the low end of a range, or its high end, is compared with a value, where the end is included and where it is not
abbrev pub end_cmp : Bool → Cmp
end_cmp true = Le
end_cmp false = Lt

-- whether a value lies between two ends
abbrev pub is_between : Worth → Worth → Bool → Worth → Bool → Bool
is_between value low with_low high with_high = holds (end_cmp with_low) low value && holds (end_cmp with_high) value high

-- whether a value is one of some; where one of them all is no value it is not
abbrev pub is_among : Worth → List Worth → Bool
is_among value others = list_all is_some (value ∷ others) && list_any (holds Eq value) others

-- two scores joined
abbrev pub joined : Join → ℕ → ℕ → ℕ
joined And left right = if nat_lt 0 left && nat_lt 0 right then capped (left + right) else 0
joined Or left right = capped (left + right)
joined Without left right = if right == 0 then left else 0

-- scores joined from left to right
abbrev pub chain_score : ℕ → List (Join × ℕ) → ℕ
chain_score first [] = first
chain_score first (next ∷ rest) = chain_score (joined next.0 first next.1) rest

-- the score of a search, multiplied
abbrev pub weighted_score : List Records → RecordId → WeightedLeaf → ℕ
weighted_score tables id weighted = capped (weighted.weight * seek_score tables id weighted.leaf)

-- whether a value is the truth `true`
abbrev pub is_true : Worth → Bool
is_true value = holds Eq value (Some (Literal.Truth true))

-- one level of a condition, with the scores of the conditions in it and the values of its terms in their places
abbrev pub score_step : List Records → RecordId → Expr-F ℕ Worth (Arith × Worth) (Join × ℕ) → ℕ
score_step tables id Expr-F.All = 1
score_step tables id (Expr-F.«Expr::Truth» truth) = one_if truth
score_step tables id (Expr-F.Flag path) = one_if (is_true (path_worth tables id path))
score_step tables id (Expr-F.Chain first rest) = chain_score first rest
score_step tables id (Expr-F.Not score) = one_if (score == 0)
score_step tables id (Expr-F.Compare cmp left right) = one_if (holds cmp left right)
score_step tables id (Expr-F.Between value low with_low high with_high) = one_if (is_between value low with_low high with_high)
score_step tables id (Expr-F.InValues value others) = one_if (is_among value others)
score_step tables id (Expr-F.Seek leaf) = seek_score tables id leaf
score_step tables id (Expr-F.Weighted leaves) = capped (sum_by (weighted_score tables id) leaves)

-- one level of a term
abbrev pub worth_step : List Records → RecordId → Term-F ℕ Worth (Arith × Worth) (Join × ℕ) → Worth
worth_step tables id (Term-F.Literal literal) = Some literal
worth_step tables id (Term-F.Cell path) = path_worth tables id path
worth_step tables id (Term-F.«Term::Truth» score) = Some (Literal.Truth (nat_lt 0 score))
worth_step tables id (Term-F.Calc first rest) = calc_worth first rest
worth_step tables id (Term-F.Minus value) = minus_worth value

-- a number behind its sign, and a condition behind what joins it
abbrev pub combined_step : CombinedTerm-F ℕ Worth (Arith × Worth) (Join × ℕ) → Arith × Worth
combined_step term = (term.arith, term.of)

abbrev pub joined_step : JoinedExpr-F ℕ Worth (Arith × Worth) (Join × ℕ) → Join × ℕ
joined_step expr = (expr.join, expr.of)

-- the score of a condition at a record
abbrev pub score_of : List Records → RecordId → Expr → ℕ
score_of tables id = fold-Expr ℕ Worth (Arith × Worth) (Join × ℕ) (score_step tables id) (worth_step tables id) combined_step joined_step

-- what a term is worth at a record
abbrev pub worth_of : List Records → RecordId → Term → Worth
worth_of tables id = fold-Term ℕ Worth (Arith × Worth) (Join × ℕ) (score_step tables id) (worth_step tables id) combined_step joined_step

-- the same of each number of a calculation, and the score of each condition of a chain
abbrev pub combined_of : List Records → RecordId → CombinedTerm → Arith × Worth
combined_of tables id = fold-CombinedTerm ℕ Worth (Arith × Worth) (Join × ℕ) (score_step tables id) (worth_step tables id) combined_step joined_step

abbrev pub joined_of : List Records → RecordId → JoinedExpr → Join × ℕ
joined_of tables id = fold-JoinedExpr ℕ Worth (Arith × Worth) (Join × ℕ) (score_step tables id) (worth_step tables id) combined_step joined_step
