use Rattle.gr_key_tree.specs.Order.{key_cmp}
use Rattle.gr_key_tree.proofs.Rising.{key_total}
use Rattle.gr_key_tree.proofs.Maps.{single_inserts}
use Rattle.gr_key_tree.proofs.tree.add_root.Goals as goal

pub returns-in_ok-single-in-None-clause-answers : goal.returns-in_ok-single-in-None-clause-answers
returns-in_ok-single-in-None-clause-answers g c =
    rw (c.in-None.is, c.in_ok-single-in-None.ensures) (single_inserts (key_cmp g.K.KeyOrder.state_of) (key_total g.K.KeyOrder.state_of) c.args.key.now c.args.id)
