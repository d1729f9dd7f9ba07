-- What a call wants of its part of the condition follows from what the whole one wants.
use Rattle.std.proofs.Common.{rules, List, ℕ, ap, ap₂, map, subst, sym, take, ◌+◌, ◌∙◌}
use Rattle.std.specs.Prelude.{◌==◌}
use Rattle.std.specs.List.{AllByRecursion}
use Rattle.std.proofs.lemmas.List.{take_all}
use Rattle.std.proofs.lemmas.Option.{IfSome_then}
use Rattle.gr_base.specs.declared.numbers.RecordId.{RecordId}
use Rattle.gr_expr.specs.declared.Join.{Join}
use Rattle.gr_expr.specs.declared.typed.Expr.{the_lemmas}
use Rattle.gr_expr.specs.declared.typed.Expr.{Expr}
use Rattle.gr_expr.specs.declared.typed.Expr.TheOpen.{Expr-F}
use Rattle.gr_expr.specs.declared.typed.Expr.TheVariants as expr
use Rattle.gr_expr.specs.declared.typed.JoinedExpr.{JoinedExpr}
use Rattle.gr_expr.specs.Fits.{Fits}
use Rattle.gr_expr.specs.Inside.Parts.{FitsJoined}
use Rattle.gr_expr.specs.Score.{chain_score, holds, is_between, joined, joined_of, score_of, worth_of}
use Rattle.gr_expr.specs.Seeks.{one_if}
use Rattle.gr_expr.proofs.Joining.{chain_more, joined_of_is}
use Rattle.gr_expr.proofs.Opening.{expr_is, joined_part}
use Rattle.gr_plan.proofs.BlockLemmas.{AreScores-absent, AreScores-joined, AreScores-once, AreScores-same, score-layer}
use Rattle.gr_plan.proofs.scores.+scores.Goals as goal

pub next_scores-scores-requires : goal.next_scores-scores-requires
next_scores-scores-requires g t c κs within =
    let tables = g.B.Rows.tables c.args.rows.now in
    (search (rules, the_lemmas), (search rules, (joined_part tables c.args.next.now c.requires.fits, c.requires.within)))

pub next_scores-returns : goal.next_scores-returns
next_scores-returns g t c =
    let tables = g.B.Rows.tables c.args.rows.now in
    let next = c.args.next.now in
    let other = λ (id : RecordId). score_of tables id next.of in
    IfSome_then c.joined.result c.joined.ensures (λ made is. λ score are.
    AreScores-same tables c.args.table c.args.block (λ id. joined next.join (score id) (other id)) _ made (λ id. ap (λ (right : Join × ℕ). joined right.0 (score id) right.1) (sym (joined_of_is tables id next)))
    (AreScores-joined tables c.args.table c.args.block next.join score other c.args.left c.in_ok-right.right made is are c.in_ok-right.ensures))

pub chain-loop-next-preserved : goal.chain-loop-next-preserved
chain-loop-next-preserved g t c = λ score are.
    let tables = g.B.Rows.tables c.args.rows.now in
    let rest = c.args.rest.now in
    let index = c.loop-next.next-index in
    let item = c.next-item.result in
    let before = λ (id : RecordId). chain_score (score id) (map (joined_of tables id) (take index rest)) in
    AreScores-same tables c.args.table c.args.block (λ id. joined (joined_of tables id item).0 (before id) (joined_of tables id item).1) (λ id. chain_score (score id) (map (joined_of tables id) (take (index + 1) rest))) c.in_ok-all.all
    (λ id.
    ap (λ (x : JoinedExpr). joined (joined_of tables id x).0 (before id) (joined_of tables id x).1) c.next-item.is
    ∙ sym (chain_more (joined_of tables id) (score id) rest index item c.loop-next-test.true))
    (c.in_ok-all.ensures before (c.loop-next.invariant score are))

pub chain-returns : goal.chain-returns
chain-returns g t c = λ score are.
    let tables = g.B.Rows.tables c.args.rows.now in
    let rest = c.args.rest.now in
    AreScores-same tables c.args.table c.args.block (λ id. chain_score (score id) (map (joined_of tables id) (take c.loop-next.next-index rest))) (λ id. chain_score (score id) (map (joined_of tables id) rest)) c.loop-next.all
    (λ id. ap (λ rest. chain_score (score id) (map (joined_of tables id) rest)) (take_all c.loop-next.next-index rest c.loop-next-test.false))
    (c.loop-next.invariant score are)

pub scores-scores-requires : goal.scores-scores-requires
scores-scores-requires g t c κs within =
    let tables = g.B.Rows.tables c.args.rows.now in
    (search (rules, the_lemmas), (search rules, (subst (Fits tables) (sym c.get.ensures) (expr_is tables c.args.condition.now (Expr-F.Chain c.in-Chain.first c.in-Chain.rest) (c.in-Chain.is ∙ sym (expr.rolls-Chain c.in-Chain.first c.in-Chain.rest)) c.requires.fits).0, c.requires.within)))

pub scores-chain-requires : goal.scores-chain-requires
scores-chain-requires g t c κs within =
    let tables = g.B.Rows.tables c.args.rows.now in
    (search (rules, the_lemmas), (search rules, (subst (AllByRecursion (FitsJoined tables)) (sym c.as_slice.ensures) (expr_is tables c.args.condition.now (Expr-F.Chain c.in-Chain.first c.in-Chain.rest) (c.in-Chain.is ∙ sym (expr.rolls-Chain c.in-Chain.first c.in-Chain.rest)) c.requires.fits).1, c.requires.within)))

pub scores-scores-requires-in-Not : goal.scores-scores-requires-in-Not
scores-scores-requires-in-Not g t c κs within =
    let tables = g.B.Rows.tables c.args.rows.now in
    (search (rules, the_lemmas), (search rules, (subst (Fits tables) (sym c.get-in-Not.ensures) (expr_is tables c.args.condition.now (Expr-F.Not c.in-Not.of) (c.in-Not.is ∙ sym (expr.rolls-Not c.in-Not.of)) c.requires.fits), c.requires.within)))

pub scores-compared-requires-clause-left : goal.scores-compared-requires-clause-left
scores-compared-requires-clause-left g t c =
    (expr_is (g.B.Rows.tables c.args.rows.now) c.args.condition.now (Expr-F.Compare c.in-Compare.cmp c.in-Compare.left c.in-Compare.right) (c.in-Compare.is ∙ sym (expr.rolls-Compare c.in-Compare.cmp c.in-Compare.left c.in-Compare.right)) c.requires.fits).0

pub scores-compared-requires-clause-right : goal.scores-compared-requires-clause-right
scores-compared-requires-clause-right g t c =
    (expr_is (g.B.Rows.tables c.args.rows.now) c.args.condition.now (Expr-F.Compare c.in-Compare.cmp c.in-Compare.left c.in-Compare.right) (c.in-Compare.is ∙ sym (expr.rolls-Compare c.in-Compare.cmp c.in-Compare.left c.in-Compare.right)) c.requires.fits).1

pub scores-between-requires : goal.scores-between-requires
scores-between-requires g t c =
    (expr_is (g.B.Rows.tables c.args.rows.now) c.args.condition.now (Expr-F.Between c.in-Between.middle c.in-Between.low c.in-Between.with_low c.in-Between.high c.in-Between.with_high) (c.in-Between.is ∙ sym (expr.rolls-Between c.in-Between.middle c.in-Between.low c.in-Between.with_low c.in-Between.high c.in-Between.with_high)) c.requires.fits).0

pub scores-returns-in_ok-first-in-Chain : goal.scores-returns-in_ok-first-in-Chain
scores-returns-in_ok-first-in-Chain g t c =
    let tables = g.B.Rows.tables c.args.rows.now in
    let first = c.in-Chain.first in
    let rest = c.in-Chain.rest in
    let condition = c.args.condition.now in
    IfSome_then c.chain.result c.chain.ensures (λ made is.
    AreScores-same tables c.args.table c.args.block (λ id. chain_score (score_of tables id c.get.result.now) (map (joined_of tables id) c.as_slice.result.now)) (λ id. score_of tables id condition) made
    (λ id.
    ap₂ (λ (first : Expr) (rest : List JoinedExpr). chain_score (score_of tables id first) (map (joined_of tables id) rest)) c.get.ensures c.as_slice.ensures
    ∙ sym (score-layer tables id condition (Expr-F.Chain first rest) (c.in-Chain.is ∙ sym (expr.rolls-Chain first rest))))
    (is (λ id. score_of tables id c.get.result.now) c.in_ok-first-in-Chain.ensures))

pub scores-returns-in_ok-of-in-Not : goal.scores-returns-in_ok-of-in-Not
scores-returns-in_ok-of-in-Not g t c =
    let tables = g.B.Rows.tables c.args.rows.now in
    let of = c.get-in-Not.result.now in
    let condition = c.args.condition.now in
    AreScores-same tables c.args.table c.args.block (λ (id : RecordId). one_if (score_of tables id of == 0)) (λ id. score_of tables id condition) c.absent.result
    (λ id.
    ap (λ of. one_if (score_of tables id of == 0)) c.get-in-Not.ensures
    ∙ sym (score-layer tables id condition (Expr-F.Not c.in-Not.of) (c.in-Not.is ∙ sym (expr.rolls-Not c.in-Not.of))))
    (AreScores-absent tables c.args.table c.args.block (λ id. score_of tables id of) c.in_ok-of-in-Not.of c.alive-in-Not.result c.absent.result c.absent.ensures c.in_ok-of-in-Not.ensures c.alive-in-Not.ensures)

pub scores-returns-in_ok-compared-in-Compare : goal.scores-returns-in_ok-compared-in-Compare
scores-returns-in_ok-compared-in-Compare g t c =
    let tables = g.B.Rows.tables c.args.rows.now in
    let condition = c.args.condition.now in
    let cmp = c.in-Compare.cmp in
    let left = c.in-Compare.left in
    let right = c.in-Compare.right in
    let met = λ (id : RecordId). holds cmp (worth_of tables id left) (worth_of tables id right) in
    AreScores-same tables c.args.table c.args.block (λ (id : RecordId). one_if (met id)) (λ id. score_of tables id condition) c.once-in-Compare.result
    (λ id. sym (score-layer tables id condition (Expr-F.Compare cmp left right) (c.in-Compare.is ∙ sym (expr.rolls-Compare cmp left right))))
    (AreScores-once tables c.args.table c.args.block met c.in_ok-compared-in-Compare.field-0 c.once-in-Compare.result c.once-in-Compare.ensures c.in_ok-compared-in-Compare.ensures)

pub scores-returns-in_ok-between-in-Between : goal.scores-returns-in_ok-between-in-Between
scores-returns-in_ok-between-in-Between g t c =
    let tables = g.B.Rows.tables c.args.rows.now in
    let condition = c.args.condition.now in
    let middle = c.in-Between.middle in
    let low = c.in-Between.low in
    let high = c.in-Between.high in
    let met = λ (id : RecordId). is_between (worth_of tables id middle) (worth_of tables id low) c.in-Between.with_low (worth_of tables id high) c.in-Between.with_high in
    AreScores-same tables c.args.table c.args.block (λ (id : RecordId). one_if (met id)) (λ id. score_of tables id condition) c.once-in-Between.result
    (λ id.
    sym (score-layer tables id condition (Expr-F.Between middle low c.in-Between.with_low high c.in-Between.with_high) (c.in-Between.is ∙ sym (expr.rolls-Between middle low c.in-Between.with_low high c.in-Between.with_high))))
    (AreScores-once tables c.args.table c.args.block met c.in_ok-between-in-Between.field-0 c.once-in-Between.result c.once-in-Between.ensures c.in_ok-between-in-Between.ensures)
