use Rattle.std.proofs.Common.{rules, ap, ◌∙◌}
use Rattle.std.specs.Int.{w128}
use Rattle.std.proofs.lemmas.Int.{to_z-of_z}
use Rattle.gr_base.specs.declared.numbers.RecordId.{RecordId}
use Rattle.gr_expr.specs.Score.{end_cmp, holds, worth_of}
use Rattle.gr_plan.specs.Inside.Leaves.{turned}
use Rattle.gr_plan.proofs.LeafLemmas.{IsWhere-both, IsWhere-ended, IsWhere-turned}
use Rattle.gr_plan.proofs.leaves.between.Goals as goal

pub returns : goal.returns
returns g c =
    let tables = g.B.Rows.tables c.args.rows.now in
    let middle = c.args.middle.now in
    let low = c.args.low.0.now in
    let high = c.args.high.0.now in
    let least = c.in_ok-least.least in
    let greatest = c.in_ok-greatest.greatest in
    IsWhere-both tables c.args.table c.args.block (λ (id : RecordId). holds (end_cmp c.args.low.1) (worth_of tables id low) (worth_of tables id middle)) (λ (id : RecordId). holds (end_cmp c.args.high.1) (worth_of tables id middle) (worth_of tables id high)) c.in_ok-above.above c.in_ok-below.below
    (IsWhere-turned tables c.args.table c.args.block (end_cmp c.args.low.1) c.turned.result low middle least _ c.in_ok-above.above c.in_ok-least.ensures (c.turned.ensures ∙ ap turned c.end_cmp.ensures) (to_z-of_z w128 least (search rules)) c.in_ok-above.ensures)
    (IsWhere-ended tables c.args.table c.args.block (end_cmp c.args.high.1) c.end_cmp-2.result middle high greatest _ c.in_ok-below.below c.in_ok-greatest.ensures c.end_cmp-2.ensures (to_z-of_z w128 greatest (search rules)) c.in_ok-below.ensures)
