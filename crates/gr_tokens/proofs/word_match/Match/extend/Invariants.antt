-- The words so far match.
use Rattle.std.proofs.Common.{◌≡◌, length}
use Rattle.gr_tokens.specs.Inside.Matches.{IsMatch}
use Rattle.gr_tokens.specs.Tokens.{words}
use Rattle.gr_tokens.proofs.word_match.Match.extend.Given as goal

abbrev pub invariant-loop-after : goal.invariant-loop-after
invariant-loop-after l = record {
  is_match : IsMatch l.self;
  phrase : l.self.phrase.now ≡ l.fn.self.phrase.now;
  text : l.self.text.now ≡ l.fn.self.text.now;
}

abbrev pub decreases-loop-after : goal.decreases-loop-after
decreases-loop-after l = length (words l.self.wanted.now)
