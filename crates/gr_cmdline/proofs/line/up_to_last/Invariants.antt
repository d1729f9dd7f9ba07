use Rattle.std.proofs.Common.{◌≡◌, length}
use Rattle.gr_cmdline.specs.Line.{up_to_last}
use Rattle.gr_cmdline.proofs.line.up_to_last.Given as goal

abbrev pub invariant-blanks : goal.invariant-blanks
invariant-blanks l = up_to_last l.fn.line ≡ up_to_last l.rest

abbrev pub decreases-blanks : goal.decreases-blanks
decreases-blanks l = length l.rest
