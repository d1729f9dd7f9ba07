use Rattle.std.proofs.Common.{◌+◌, ◌*◌}
use Rattle.std.specs.Arc.{arc_value}
use Rattle.gr_pvec.proofs.node.Node.+put.Given as goal

abbrev pub decreases-put : goal.decreases-put
decreases-put g l = 3 * (arc_value l.node.now).1 + 2

abbrev pub decreases-put_own : goal.decreases-put_own
decreases-put_own g l = 3 * l.self.now.1 + 1

abbrev pub decreases-put_below : goal.decreases-put_below
decreases-put_below g l = 3 * l.level
