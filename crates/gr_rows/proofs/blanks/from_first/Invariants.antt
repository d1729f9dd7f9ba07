use Rattle.std.proofs.Common.{◌≡◌, length}
use Rattle.gr_rows.specs.Names.{from_first}
use Rattle.gr_rows.proofs.blanks.from_first.Given as goal
use denote.Shadow.{shadow}
use denote.Text.{Utf8}

abbrev pub invariant-blanks : goal.invariant-blanks
invariant-blanks l = record {
  same : from_first l.fn.text ≡ from_first l.rest;
  text : shadow (Utf8 l.rest);
}

abbrev pub decreases-blanks : goal.decreases-blanks
decreases-blanks l = length l.rest
