use Rattle.std.proofs.Common.{length}
use Rattle.reader_bench.proofs.lines.Given as goal

abbrev pub decreases-lines : goal.decreases-lines
decreases-lines l = length l.rest
