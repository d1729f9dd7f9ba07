use Rattle.std.proofs.Common.{length}
use Rattle.gr_index.proofs.tests.walked.Given as goal

abbrev pub decreases-loop-view : goal.decreases-loop-view
decreases-loop-view l = length l.cursor
