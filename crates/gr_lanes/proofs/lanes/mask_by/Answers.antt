use Rattle.std.proofs.Common.{ap, ◌∙◌}
use mir.Val.{bool_byte}
use Rattle.gr_lanes.proofs.Masks.{one_more, IsMask-from_loop}
use Rattle.gr_lanes.proofs.lanes.mask_by.Goals as goal

pub loop-place-preserved : goal.loop-place-preserved
loop-place-preserved g c = one_more _ c.args.values.now c.loop-place.place c.loop-place.mask _ _ c.loop-place-test.true c.requires c.index-values-place.is (c.from.ensures ∙ ap bool_byte c.one.ensures) c.loop-place.invariant

pub returns : goal.returns
returns g c = IsMask-from_loop _ _ _ c.loop-place.place c.loop-place-test.false c.loop-place.invariant
