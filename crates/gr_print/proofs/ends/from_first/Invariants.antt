use Rattle.std.proofs.Common.{◌≡◌, length}
use Rattle.gr_print.specs.Columns.{from_first}
use Rattle.gr_print.proofs.ends.from_first.Given as goal
use denote.Shadow.{shadow}
use denote.Text.{Utf8}

abbrev pub invariant-white : goal.invariant-white
invariant-white l = record {
  same : from_first l.fn.text ≡ from_first l.rest;
  text : shadow (Utf8 l.rest);
}

abbrev pub decreases-white : goal.decreases-white
decreases-white l = length l.rest
