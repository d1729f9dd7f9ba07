use Rattle.gr_key_tree.specs.Order.{key_cmp}
use Rattle.gr_key_tree.specs.Inside.Root.{root_pairs}
use Rattle.gr_key_tree.proofs.Rising.{key_total}
use Rattle.gr_key_tree.proofs.Maps.{finds_or_adds}
use Rattle.gr_key_tree.proofs.tree.TreeGrowingKeys.find_or_add.Goals as goal

pub returns : goal.returns
returns g c =
    finds_or_adds (key_cmp g.K.KeyOrder.state_of) (key_total g.K.KeyOrder.state_of) (root_pairs c.self.inside.root) (root_pairs c.add_root.new.root) c.args.self.now c.args.key.now c.args.id c.add_root.result c.self.view_is (rw c.in_ok-key.ensures at c.add_root.ensures.answers)
