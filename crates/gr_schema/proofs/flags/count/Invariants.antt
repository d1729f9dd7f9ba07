use Rattle.std.proofs.Common.{◌≡◌, ◌+◌, ◌≤◌, length, map}
use Rattle.std.specs.List.{slice_split}
use Rattle.gr_schema.specs.Flags.{count_of, is_bar}
use Rattle.gr_schema.proofs.flags.count.Given as goal

abbrev pub invariant-pieces : goal.invariant-pieces
invariant-pieces l = record {
  counted : count_of (map (λ word. word.now) l.words) (slice_split is_bar l.text) ≡ l.found + count_of (map (λ word. word.now) l.words) (slice_split is_bar l.rest);
  few : l.found + length l.rest ≤ length l.text;
}

abbrev pub decreases-pieces : goal.decreases-pieces
decreases-pieces l = length l.rest
