-- Fewer words match, and the next ones differ still.
use Rattle.std.proofs.Common.{◌≡◌, ◌≤◌, ◌+◌, take, drop}
use Rattle.gr_tokens.specs.Inside.Matches.{ArePassed}
use Rattle.gr_tokens.specs.Tokens.{words}
use Rattle.gr_tokens.proofs.word_match.Match.shift_often.Given as goal

abbrev pub invariant-loop-self : goal.invariant-loop-self
invariant-loop-self l = record {
  phrase : l.self.phrase.now ≡ l.fn.self.phrase.now;
  after : l.self.after.now ≡ l.fn.self.after.now;
  sum : l.self.matched + l.shift ≡ l.fn.self.matched;
  text : words l.self.text.now ≡ drop l.shift (words l.fn.self.text.now);
  same : take l.self.matched (drop l.shift (words l.fn.self.text.now)) ≡ take l.self.matched (words l.fn.self.phrase.now);
  longest : ¬ (take (l.self.matched + 1) (drop l.shift (words l.fn.self.text.now)) ≡ take (l.self.matched + 1) (words l.fn.self.phrase.now));
  first : l.shift ≡ 0 → l.period.from ≤ l.self.matched;
  passed : ArePassed (words l.fn.self.text.now) (words l.fn.self.phrase.now) l.fn.self.matched l.shift;
}

abbrev pub decreases-loop-self : goal.decreases-loop-self
decreases-loop-self l = l.self.matched
