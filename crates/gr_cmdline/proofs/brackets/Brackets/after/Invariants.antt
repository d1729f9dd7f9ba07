use Rattle.std.proofs.Common.{◌≡◌, ◌+◌, ◌≤◌, fold, length}
use Rattle.gr_cmdline.specs.Inside.Brackets.{after_byte}
use Rattle.gr_cmdline.proofs.brackets.Brackets.after.Given as goal

abbrev pub invariant-marks : goal.invariant-marks
invariant-marks l = record {
  exact : fold after_byte l.fn.self l.fn.bytes ≡ fold after_byte l.count l.rest;
  bound : l.count.depth + length l.rest ≤ l.fn.self.depth + length l.fn.bytes;
}

abbrev pub decreases-marks : goal.decreases-marks
decreases-marks l = length l.rest
