use Rattle.std.proofs.Common.{◌+◌, ◌*◌}
use Rattle.gr_key_tree.proofs.+remove.Given as goal

abbrev pub decreases-node::Node::removed : goal.decreases-node::Node::removed
decreases-node::Node::removed g l = 2 * l.self.now.height + 1

abbrev pub decreases-inner::removed : goal.decreases-inner::removed
decreases-inner::removed g l = 2 * l.height
