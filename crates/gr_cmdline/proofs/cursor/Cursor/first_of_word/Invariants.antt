use Rattle.std.proofs.Common.{◌≡◌, ◌≤◌, length}
use Rattle.gr_cmdline.specs.Words.{words}
use Rattle.gr_cmdline.proofs.cursor.Cursor.first_of_word.Given as goal

abbrev pub invariant-blanks : goal.invariant-blanks
invariant-blanks l = record {
  read : words l.fn.self ≡ words l.self;
  order : length l.self ≤ length l.fn.self;
}

abbrev pub decreases-blanks : goal.decreases-blanks
decreases-blanks l = length l.self
