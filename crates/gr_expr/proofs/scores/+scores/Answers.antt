-- What a call wants of its part of the condition follows from what the whole one wants.
use Rattle.std.proofs.Common.{rules, ◌≡◌, ap, get_or, map, subst, sym, take, ◌∙◌}
use Rattle.std.specs.Prelude.{◌&&◌, ◌||◌, is_some, true}
use Rattle.std.specs.List.{AllByRecursion, list_all, list_any}
use Rattle.gr_expr.specs.declared.typed.Expr.{the_lemmas}
use Rattle.gr_expr.specs.declared.typed.Expr.TheOpen.{Expr-F, Term-F}
use Rattle.gr_expr.specs.declared.typed.Expr.TheVariants as expr
use Rattle.gr_expr.specs.declared.typed.Term.TheVariants as term
use Rattle.gr_expr.specs.Fits.{Fits, FitsWeighted}
use Rattle.gr_expr.specs.Inside.Parts.{FitsCombined, FitsJoined, FitsTerm}
use Rattle.gr_base.specs.declared.compare.Cmp.TheVariants.{Eq}
use Rattle.gr_expr.specs.Inside.Lent.{literal}
use Rattle.gr_expr.specs.Score.{chain_score, combined_of, holds, joined, joined_of, worth_of}
use Rattle.gr_expr.specs.Values.{calc_worth, combined}
use Rattle.gr_expr.specs.declared.typed.CombinedTerm.{CombinedTerm}
use Rattle.gr_expr.specs.declared.typed.JoinedExpr.{JoinedExpr}
use Rattle.gr_expr.proofs.Joining.{all_more, all_stop, among_none, any_more, calc_more, chain_more, is_some-map}
use Rattle.std.specs.Option.{option_map}
use Rattle.gr_expr.proofs.Opening.{all_at, combined_part, expr_is, expr_is_here, joined_part, term_is}
use Rattle.gr_expr.proofs.scores.+scores.Goals as goal

pub score-score-first-requires : goal.score-score-first-requires
score-score-first-requires g t c κs within =
    let tables = g.R.Rows.tables c.args.rows.now in
    (search (rules, the_lemmas), (search rules, subst (Fits tables) (sym c.get.ensures) (expr_is tables c.args.expr.now (Expr-F.Chain c.in-Chain.first c.in-Chain.rest) (c.in-Chain.is ∙ sym (expr.rolls-Chain c.in-Chain.first c.in-Chain.rest)) c.requires).0))

pub score-chain-requires : goal.score-chain-requires
score-chain-requires g t c κs within =
    let tables = g.R.Rows.tables c.args.rows.now in
    (search (rules, the_lemmas), (search rules, subst (AllByRecursion (FitsJoined tables)) (sym c.as_slice.ensures) (expr_is tables c.args.expr.now (Expr-F.Chain c.in-Chain.first c.in-Chain.rest) (c.in-Chain.is ∙ sym (expr.rolls-Chain c.in-Chain.first c.in-Chain.rest)) c.requires).1))

pub score-score-requires : goal.score-score-requires
score-score-requires g t c κs within =
    let tables = g.R.Rows.tables c.args.rows.now in
    (search (rules, the_lemmas), (search rules, subst (Fits tables) (sym c.get-in-Not.ensures) (expr_is tables c.args.expr.now (Expr-F.Not c.in-Not.of) (c.in-Not.is ∙ sym (expr.rolls-Not c.in-Not.of)) c.requires)))

pub score-seek-requires : goal.score-seek-requires
score-seek-requires g t c =
    let tables = g.R.Rows.tables c.args.rows.now in
    expr_is_here tables c.args.expr.now (Expr-F.Seek c.in-Seek.leaf) (c.in-Seek.is ∙ sym (expr.rolls-Seek c.in-Seek.leaf)) c.requires

pub score-weighted-requires : goal.score-weighted-requires
score-weighted-requires g t c =
    let tables = g.R.Rows.tables c.args.rows.now in
    subst (AllByRecursion (FitsWeighted tables)) (sym c.as_slice-in-Weighted.ensures) (expr_is_here tables c.args.expr.now (Expr-F.Weighted c.in-Weighted.leaves) (c.in-Weighted.is ∙ sym (expr.rolls-Weighted c.in-Weighted.leaves)) c.requires)

pub value_of-score-requires : goal.value_of-score-requires
value_of-score-requires g t c κs within =
    let tables = g.R.Rows.tables c.args.rows.now in
    (search (rules, the_lemmas), (search rules, subst (Fits tables) (sym c.get.ensures) (term_is tables c.args.term.now (Term-F.«Term::Truth» c.in-Truth.expr) (c.in-Truth.is ∙ sym (term.rolls-Truth c.in-Truth.expr)) c.requires)))

pub value_of-value_of-first-requires : goal.value_of-value_of-first-requires
value_of-value_of-first-requires g t c κs within =
    let tables = g.R.Rows.tables c.args.rows.now in
    (search (rules, the_lemmas), (search rules, subst (FitsTerm tables) (sym c.get-in-Calc.ensures) (term_is tables c.args.term.now (Term-F.Calc c.in-Calc.first c.in-Calc.rest) (c.in-Calc.is ∙ sym (term.rolls-Calc c.in-Calc.first c.in-Calc.rest)) c.requires).0))

pub value_of-calc-requires : goal.value_of-calc-requires
value_of-calc-requires g t c κs within =
    let tables = g.R.Rows.tables c.args.rows.now in
    (search (rules, the_lemmas), (search rules, subst (AllByRecursion (FitsCombined tables)) (sym c.as_slice.ensures) (term_is tables c.args.term.now (Term-F.Calc c.in-Calc.first c.in-Calc.rest) (c.in-Calc.is ∙ sym (term.rolls-Calc c.in-Calc.first c.in-Calc.rest)) c.requires).1))

pub value_of-value_of-requires : goal.value_of-value_of-requires
value_of-value_of-requires g t c κs within =
    let tables = g.R.Rows.tables c.args.rows.now in
    (search (rules, the_lemmas), (search rules, subst (FitsTerm tables) (sym c.get-in-Minus.ensures) (term_is tables c.args.term.now (Term-F.Minus c.in-Minus.of) (c.in-Minus.is ∙ sym (term.rolls-Minus c.in-Minus.of)) c.requires)))

pub is_among-value_of-other-requires : goal.is_among-value_of-other-requires
is_among-value_of-other-requires g t c κs within =
    let tables = g.R.Rows.tables c.args.rows.now in
    (search (rules, the_lemmas), (search rules, subst (FitsTerm tables) (sym c.other-item.is) (all_at (FitsTerm tables) c.args.others.now c.loop-other.other-index c.other-item.result c.loop-other-test.true c.requires)))

pub next_score-score-requires : goal.next_score-score-requires
next_score-score-requires g t c κs within =
    let tables = g.R.Rows.tables c.args.rows.now in
    (search (rules, the_lemmas), (search rules, joined_part tables c.args.next.now c.requires))

pub next_number-value_of-requires : goal.next_number-value_of-requires
next_number-value_of-requires g t c κs within =
    let tables = g.R.Rows.tables c.args.rows.now in
    (search (rules, the_lemmas), (search rules, combined_part tables c.args.next.now c.requires))

pub chain-next_score-all-requires : goal.chain-next_score-all-requires
chain-next_score-all-requires g t c κs within =
    let tables = g.R.Rows.tables c.args.rows.now in
    (search (rules, the_lemmas), (search rules, subst (FitsJoined tables) (sym c.next-item.is) (all_at (FitsJoined tables) c.args.rest.now c.loop-next.next-index c.next-item.result c.loop-next-test.true c.requires)))

pub calc-next_number-number-requires : goal.calc-next_number-number-requires
calc-next_number-number-requires g t c κs within =
    let tables = g.R.Rows.tables c.args.rows.now in
    (search (rules, the_lemmas), (search rules, subst (FitsCombined tables) (sym c.next-item.is) (all_at (FitsCombined tables) c.args.rest.now c.loop-next.next-index c.next-item.result c.loop-next-test.true c.requires)))

pub score-value_of-requires : goal.score-value_of-requires
score-value_of-requires g t c κs within =
    let tables = g.R.Rows.tables c.args.rows.now in
    (search (rules, the_lemmas), (search rules, (expr_is tables c.args.expr.now (Expr-F.Compare c.in-Compare.cmp c.in-Compare.left c.in-Compare.right) (c.in-Compare.is ∙ sym (expr.rolls-Compare c.in-Compare.cmp c.in-Compare.left c.in-Compare.right)) c.requires).0))

pub score-value_of-requires-in-Compare : goal.score-value_of-requires-in-Compare
score-value_of-requires-in-Compare g t c κs within =
    let tables = g.R.Rows.tables c.args.rows.now in
    (search (rules, the_lemmas), (search rules, (expr_is tables c.args.expr.now (Expr-F.Compare c.in-Compare.cmp c.in-Compare.left c.in-Compare.right) (c.in-Compare.is ∙ sym (expr.rolls-Compare c.in-Compare.cmp c.in-Compare.left c.in-Compare.right)) c.requires).1))

pub score-value_of-middle-requires : goal.score-value_of-middle-requires
score-value_of-middle-requires g t c κs within =
    let tables = g.R.Rows.tables c.args.rows.now in
    (search (rules, the_lemmas), (search rules, (expr_is tables c.args.expr.now (Expr-F.Between c.in-Between.middle c.in-Between.low c.in-Between.with_low c.in-Between.high c.in-Between.with_high) (c.in-Between.is ∙ sym (expr.rolls-Between c.in-Between.middle c.in-Between.low c.in-Between.with_low c.in-Between.high c.in-Between.with_high)) c.requires).0))

pub score-value_of-low-requires : goal.score-value_of-low-requires
score-value_of-low-requires g t c κs within =
    let tables = g.R.Rows.tables c.args.rows.now in
    (search (rules, the_lemmas), (search rules, (expr_is tables c.args.expr.now (Expr-F.Between c.in-Between.middle c.in-Between.low c.in-Between.with_low c.in-Between.high c.in-Between.with_high) (c.in-Between.is ∙ sym (expr.rolls-Between c.in-Between.middle c.in-Between.low c.in-Between.with_low c.in-Between.high c.in-Between.with_high)) c.requires).1))

pub score-value_of-high-requires : goal.score-value_of-high-requires
score-value_of-high-requires g t c κs within =
    let tables = g.R.Rows.tables c.args.rows.now in
    (search (rules, the_lemmas), (search rules, (expr_is tables c.args.expr.now (Expr-F.Between c.in-Between.middle c.in-Between.low c.in-Between.with_low c.in-Between.high c.in-Between.with_high) (c.in-Between.is ∙ sym (expr.rolls-Between c.in-Between.middle c.in-Between.low c.in-Between.with_low c.in-Between.high c.in-Between.with_high)) c.requires).2))

pub score-value_of-sought-requires : goal.score-value_of-sought-requires
score-value_of-sought-requires g t c κs within =
    let tables = g.R.Rows.tables c.args.rows.now in
    (search (rules, the_lemmas), (search rules, (expr_is tables c.args.expr.now (Expr-F.InValues c.in-InValues.sought c.in-InValues.others) (c.in-InValues.is ∙ sym (expr.rolls-InValues c.in-InValues.sought c.in-InValues.others)) c.requires).0))

pub score-is_among-requires : goal.score-is_among-requires
score-is_among-requires g t c κs within =
    let tables = g.R.Rows.tables c.args.rows.now in
    (search (rules, the_lemmas), (search rules, subst (AllByRecursion (FitsTerm tables)) (sym c.as_slice-in-InValues.ensures) (expr_is tables c.args.expr.now (Expr-F.InValues c.in-InValues.sought c.in-InValues.others) (c.in-InValues.is ∙ sym (expr.rolls-InValues c.in-InValues.sought c.in-InValues.others)) c.requires).1))

pub calc-loop-next-preserved : goal.calc-loop-next-preserved
calc-loop-next-preserved g t c =
    let numbers = combined_of (g.R.Rows.tables c.args.rows.now) c.args.id in
    let first = option_map literal c.args.first in
    let before = calc_worth first (map numbers (take c.loop-next.next-index c.args.rest.now)) in
    c.next_number-number.ensures
    ∙ ap (λ w. combined (numbers c.next-item.result).0 w (numbers c.next-item.result).1) c.loop-next.invariant
    ∙ ap (λ (x : CombinedTerm). combined (numbers x).0 before (numbers x).1) c.next-item.is
    ∙ sym (calc_more numbers first c.args.rest.now c.loop-next.next-index c.next-item.result c.loop-next-test.true)

pub chain-loop-next-preserved : goal.chain-loop-next-preserved
chain-loop-next-preserved g t c =
    let scores = joined_of (g.R.Rows.tables c.args.rows.now) c.args.id in
    let before = chain_score c.args.first (map scores (take c.loop-next.next-index c.args.rest.now)) in
    c.next_score-all.ensures
    ∙ ap (λ n. joined (scores c.next-item.result).0 n (scores c.next-item.result).1) c.loop-next.invariant
    ∙ ap (λ (x : JoinedExpr). joined (scores x).0 before (scores x).1) c.next-item.is
    ∙ sym (chain_more scores c.args.first c.args.rest.now c.loop-next.next-index c.next-item.result c.loop-next-test.true)

pub is_among-loop-other-preserved : goal.is_among-loop-other-preserved
is_among-loop-other-preserved g t c =
    let worths = worth_of (g.R.Rows.tables c.args.rows.now) c.args.id in
    let is_sought = holds Eq (option_map literal c.args.sought) in
    let before = map worths (take c.loop-other.other-index c.args.others.now) in
    let seen : option_map literal c.value_of-other.result ≡ worths (get_or c.args.others.now c.loop-other.other-index c.other-item.result) = c.value_of-other.ensures ∙ ap worths c.other-item.is in
    let some : is_some (worths (get_or c.args.others.now c.loop-other.other-index c.other-item.result)) ≡ true = ap is_some (sym seen) ∙ is_some-map literal c.value_of-other.result ∙ c.if-is_none-2.ensures in (
      all_more worths is_some c.args.others.now c.loop-other.other-index c.other-item.result c.loop-other-test.true
          ∙ ap (λ b. b && is_some (worths (get_or c.args.others.now c.loop-other.other-index c.other-item.result))) c.loop-other.invariant.0
          ∙ some,
      c.is_found-found.ensures
          ∙ ap (λ b. b || is_sought (option_map literal c.value_of-other.result)) c.loop-other.invariant.1
          ∙ ap (λ w. list_any is_sought before || is_sought w) seen
          ∙ sym (any_more worths is_sought c.args.others.now c.loop-other.other-index c.other-item.result c.loop-other-test.true),
    )

pub is_among-returns-then-is_none-2 : goal.is_among-returns-then-is_none-2
is_among-returns-then-is_none-2 g t c =
    let worths = worth_of (g.R.Rows.tables c.args.rows.now) c.args.id in
    let sought = option_map literal c.args.sought in
    let others = map worths c.args.others.now in
    let seen : option_map literal c.value_of-other.result ≡ worths (get_or c.args.others.now c.loop-other.other-index c.other-item.result) = c.value_of-other.ensures ∙ ap worths c.other-item.is in
    let none = ap is_some (sym seen) ∙ is_some-map literal c.value_of-other.result ∙ c.if-is_none-2.ensures in
    among_none (is_some sought) (list_all is_some others) (list_any (holds Eq sought) others)
    (all_stop worths is_some c.args.others.now c.loop-other.other-index c.other-item.result c.loop-other-test.true none)
