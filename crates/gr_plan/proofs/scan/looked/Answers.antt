use Rattle.std.proofs.Common.{rules, ◌≡◌, ◌+◌, ◌<◌, ◌≤◌, length, arith, subst, sym, ◌∙◌}
use Rattle.gr_base.specs.declared.limits.TheConstants.{MOST_SCORE}
use Rattle.gr_expr.specs.Tables.{record_id, records_of}
use Rattle.gr_plan.proofs.ScanLemmas.{AreSeen-dead, AreSeen-found, AreSeen-later, AreSeen-passed, score_at}
use Rattle.gr_plan.proofs.ScoreLemmas.{score_of-most}
use Rattle.gr_plan.proofs.scan.looked.Goals as goal
use Rattle.gr_plan.proofs.scan.looked.Goals.{then-is_alive+then-score-gt0+in_ok-push, then-is_alive+else-score-gt0, else-is_alive}

pub push-requires-clause-later : goal.push-requires-clause-later
push-requires-clause-later g c =
    let tables = g.R.Rows.tables c.args.rows.now in
    AreSeen-later tables c.args.condition.now (records_of tables c.args.table) c.loop-seen.seen c.loop-seen.hits c.loop-seen.invariant

pub push-requires-clause-score : goal.push-requires-clause-score
push-requires-clause-score g c = record {
  some = omega (arith, c.if-score-gt0.true);
  most = subst (λ score. score ≤ MOST_SCORE) (sym c.score-score.ensures) (score_of-most (g.R.Rows.tables c.args.rows.now) (record_id (c.loop-seen.seen + 1)) c.args.condition.now);
}

pub loop-seen-preserved : goal.loop-seen-preserved
loop-seen-preserved g c =
    let tables = g.R.Rows.tables c.args.rows.now in
    let condition = c.args.condition.now in
    let records = records_of tables c.args.table in
    let seen = c.loop-seen.seen in
    let hits = c.loop-seen.hits in
    let below : seen < length records = search rules in
    elim c.if-is_alive.branch [
      | then-is_alive+then-score-gt0+in_ok-push w ↦
          rw (w.hits-is, w.in_ok-push.ensures.ok)
          (AreSeen-found tables condition records seen w.score-score.result hits below (sym c.is_alive.ensures ∙ w.if-is_alive.true) w.score-score.ensures w.if-score-gt0.true c.loop-seen.invariant)
      | then-is_alive+else-score-gt0 w ↦
          let none : score_at tables condition (seen + 1) ≡ 0 = omega (arith, w.if-score-gt0.false, w.score-score.ensures) in
          rw w.hits-is
          (AreSeen-passed tables condition records seen hits below (sym c.is_alive.ensures ∙ w.if-is_alive.true) none c.loop-seen.invariant)
      | else-is_alive w ↦
          rw w.hits-is
          (AreSeen-dead tables condition records seen hits below (sym c.is_alive.ensures ∙ w.if-is_alive.false) c.loop-seen.invariant)
    ]
