use Rattle.std.proofs.Common.{subst}
use Rattle.gr_base.specs.Keys.{KeyMap, AreFound}
use Rattle.gr_key_tree.specs.Inside.Root.{root_pairs}
use Rattle.gr_key_tree.proofs.Maps.{found_in_order, if_ok}
use Rattle.gr_key_tree.proofs.tree.TreeKeyTable.prefix_ids.Goals as goal

pub returns : goal.returns
returns g c = if_ok c.in_order.result
    (λ ids order. subst (λ (m : KeyMap). AreFound m c.args.prefix.now ids) c.self.view_is
    (found_in_order (root_pairs c.self.inside.root) c.args.prefix.now c.in_ok-numbers.numbers.items ids c.in_ok-numbers.ensures order))
    c.in_order.ensures
