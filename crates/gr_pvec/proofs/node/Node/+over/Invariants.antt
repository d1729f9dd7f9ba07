use Rattle.gr_pvec.proofs.node.Node.+over.Given as goal

abbrev pub decreases-over : goal.decreases-over
decreases-over g l = l.level
