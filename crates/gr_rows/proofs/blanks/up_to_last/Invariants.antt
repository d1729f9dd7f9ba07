use Rattle.std.proofs.Common.{◌≡◌, length}
use Rattle.gr_rows.specs.Names.{up_to_last}
use Rattle.gr_rows.proofs.blanks.up_to_last.Given as goal
use denote.Shadow.{shadow}
use denote.Text.{Utf8}

abbrev pub invariant-blanks : goal.invariant-blanks
invariant-blanks l = record {
  same : up_to_last l.fn.text ≡ up_to_last l.rest;
  text : shadow (Utf8 l.rest);
}

abbrev pub decreases-blanks : goal.decreases-blanks
decreases-blanks l = length l.rest
