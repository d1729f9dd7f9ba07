use Rattle.gr_key_tree.proofs.Places.{cuts_after_first, placed_after_first}
use Rattle.gr_key_tree.proofs.inner.place.Goals as goal

pub reached-requires : goal.reached-requires
reached-requires g c = cuts_after_first g.K.KeyOrder.state_of c.args.height c.args.children.now c.requires

pub returns : goal.returns
returns g c = placed_after_first g.K.KeyOrder.state_of c.args.height c.args.key.now c.args.children.now c.reached.result c.requires c.reached.ensures
