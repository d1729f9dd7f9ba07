use Rattle.std.proofs.Common.{◌≤◌, ◌+◌, length, subst}
use Rattle.gr_pvec.specs.Inside.Packed.{span}
use Rattle.gr_pvec.proofs.Nodes.{node_few}
use Rattle.gr_pvec.proofs.node.Node.level.Goals as goal

pub returns-clause-few : goal.returns-clause-few
returns-clause-few g c = subst (λ value. length value.0 ≤ span (value.1 + 1)) c.self.view_is (node_few c.self.inside.level c.self.inside.shape c.self.invariant)
