use Rattle.std.proofs.Common.{◌≡◌, ◌≤◌, length, option_map}
use Rattle.gr_cmdline.specs.Words.{in_quotes, rest_from, with_text}
use Rattle.gr_cmdline.proofs.cursor.Cursor.in_quotes.Given as goal

abbrev pub invariant-runs : goal.invariant-runs
invariant-runs l = record {
  read : rest_from (in_quotes l.quote) l.fn.self ≡ option_map (with_text l.text) (rest_from (in_quotes l.quote) l.self);
  order : length l.self ≤ length l.fn.self;
}

abbrev pub decreases-runs : goal.decreases-runs
decreases-runs l = length l.self
