use Rattle.gr_lanes.proofs.Masks.{eight_more}
use Rattle.gr_lanes.proofs.lanes.mask_of_eights.Goals as goal

pub loop-group-preserved : goal.loop-group-preserved
loop-group-preserved g c = eight_more _ c.args.values.now c.loop-group.group c.loop-group.mask _ c.loop-group-test.true c.requires c.loop-group.invariant c.eight.ensures
