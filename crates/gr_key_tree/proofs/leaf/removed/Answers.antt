use Rattle.gr_key_tree.proofs.Places.{gap_none}
use Rattle.gr_key_tree.proofs.Lookups.{has_none}
use Rattle.gr_key_tree.proofs.leaf.removed.Goals as goal

pub unreachable-requires : goal.unreachable-requires
unreachable-requires g c = has_none c.args.items.now c.args.key.now (gap_none g.K.KeyOrder.state_of c.args.key.now c.args.items.now c.in-Err.field-0 c.in-Err.ensures) c.requires.there
