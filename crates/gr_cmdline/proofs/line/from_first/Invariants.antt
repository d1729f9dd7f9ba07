use Rattle.std.proofs.Common.{◌≡◌, length}
use Rattle.gr_cmdline.specs.Line.{from_first}
use Rattle.gr_cmdline.proofs.line.from_first.Given as goal

abbrev pub invariant-blanks : goal.invariant-blanks
invariant-blanks l = from_first l.fn.line ≡ from_first l.rest

abbrev pub decreases-blanks : goal.decreases-blanks
decreases-blanks l = length l.rest
