use Rattle.std.proofs.Common.{rules, pos, get_or, take}
use mir.Syntax.{w64}
use mir.Val.{SFits}
use Rattle.std.proofs.lemmas.List.{take_more, take_all}
use Rattle.std.proofs.lemmas.List.Elements.{All-push}
use Rattle.gr_columns.proofs.masks.each_signed.Goals as goal

pub loop-value-preserved : goal.loop-value-preserved
loop-value-preserved c =
    let fits : SFits w64 (get_or c.args.values.now c.loop-value.value-index (pos 0)) = search rules in
    rw (take_more c.args.values.now c.loop-value.value-index (pos 0) c.loop-value-test.true) (All-push (SFits w64) (take c.loop-value.value-index c.args.values.now) (get_or c.args.values.now c.loop-value.value-index (pos 0)) c.loop-value.invariant fits)

pub returns : goal.returns
returns c = rw (take_all c.loop-value.value-index c.args.values.now c.loop-value-test.false) at c.loop-value.invariant
