use Rattle.std.proofs.Common.{◌≡◌, length}
use Rattle.gr_print.specs.Columns.{up_to_last}
use Rattle.gr_print.proofs.ends.up_to_last.Given as goal
use denote.Shadow.{shadow}
use denote.Text.{Utf8}

abbrev pub invariant-white : goal.invariant-white
invariant-white l = record {
  same : up_to_last l.fn.text ≡ up_to_last l.rest;
  text : shadow (Utf8 l.rest);
}

abbrev pub decreases-white : goal.decreases-white
decreases-white l = length l.rest
