use Rattle.std.proofs.Common.{◌+◌, ◌*◌}
use Rattle.std.specs.Arc.{arc_value}
use Rattle.gr_key_tree.proofs.+add.Given as goal

abbrev pub decreases-node::Node::find_or_add : goal.decreases-node::Node::find_or_add
decreases-node::Node::find_or_add g l = 5 * l.self.now.height + 1

abbrev pub decreases-inner::find_or_add : goal.decreases-inner::find_or_add
decreases-inner::find_or_add g l = 5 * l.height

abbrev pub decreases-inner::add_child : goal.decreases-inner::add_child
decreases-inner::add_child g l = 5 * l.child.now.node.height + 3

abbrev pub decreases-inner::add_shared : goal.decreases-inner::add_shared
decreases-inner::add_shared g l = 5 * (arc_value l.node.now).height + 2

abbrev pub decreases-inner::add_parted : goal.decreases-inner::add_parted
decreases-inner::add_parted g l = 5 * l.node.now.height + 4
