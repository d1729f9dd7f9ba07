use Rattle.gr_pvec.proofs.node.Node.+leaf.Given as goal

abbrev pub decreases-leaf : goal.decreases-leaf
decreases-leaf g l = l.self.now.1
