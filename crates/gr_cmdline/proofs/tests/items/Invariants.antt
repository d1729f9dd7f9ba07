use Rattle.std.proofs.Common.{◌≡◌, false}
use Rattle.gr_cmdline.proofs.tests.items.Given as goal

abbrev pub invariant-loop-piece : goal.invariant-loop-piece
invariant-loop-piece l = l.reader.ended ≡ false
