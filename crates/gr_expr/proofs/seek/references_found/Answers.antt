use Rattle.std.proofs.Common.{◌+◌, ◌∙◌, ap, cond, take}
use Rattle.std.specs.List.{count_by}
use Rattle.gr_expr.specs.Seeks.{capped, is_referred, one_if}
use Rattle.gr_expr.proofs.Counting.{capped-sum_more}
use Rattle.gr_expr.proofs.seek.references_found.Goals as goal

pub loop-id-preserved : goal.loop-id-preserved
loop-id-preserved g c =
    let is_sought = is_referred (g.R.Rows.tables c.args.rows.now) c.args.path.now c.args.sought.now in
    c.counted-count.ensures
    ∙ ap (λ n. capped (n + one_if c.is_referred.result)) c.loop-id.invariant
    ∙ ap (λ b. capped (capped (count_by is_sought (take c.loop-id.id-index c.args.ids.now)) + one_if b)) c.is_referred.ensures
    ∙ capped-sum_more (λ id. cond (is_sought id) 1 0) c.args.ids.now c.loop-id.id-index _ c.loop-id-test.true
