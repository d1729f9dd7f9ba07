use Rattle.std.proofs.Common.{◌+◌, ◌*◌}
use Rattle.std.specs.Arc.{arc_value}
use Rattle.gr_pvec.proofs.node.Node.+push.Given as goal

abbrev pub decreases-push : goal.decreases-push
decreases-push g l = 3 * (arc_value l.node.now).1 + 2

abbrev pub decreases-push_own : goal.decreases-push_own
decreases-push_own g l = 3 * l.self.now.1 + 1

abbrev pub decreases-push_below : goal.decreases-push_below
decreases-push_below g l = 3 * l.level
