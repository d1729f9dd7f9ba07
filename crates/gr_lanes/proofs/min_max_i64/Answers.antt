use Rattle.std.proofs.Common.{rules, arith}
use mir.Syntax.{w64}
use mir.Val.{SFits}
use Rattle.std.proofs.lemmas.Int.{to_z-of_z}
use Rattle.std.proofs.lemmas.List.Sums.{fold_more}
use Rattle.gr_lanes.proofs.Ends.{AreEnds-from_folds}
use Rattle.gr_lanes.proofs.min_max_i64.Goals as goal

pub loop-value-preserved : goal.loop-value-preserved
loop-value-preserved c = (grind (arith, to_z-of_z, fold_more), grind (arith, to_z-of_z, fold_more))

pub returns : goal.returns
returns c =
    let fits : SFits w64 c.in_ok-first.first.now = search rules in
    AreEnds-from_folds _ c.in_ok-first.others.now _ _ _ _ c.loop-value.value-index c.in_ok-first.ensures.cases.0 (to_z-of_z w64 _ fits) c.loop-value-test.false c.loop-value.invariant.0 c.loop-value.invariant.1
