-- The bigrams so far and those left are those of the text.
use Rattle.std.proofs.Common.{◌≡◌, ◌++◌, map}
use Rattle.std.specs.Str.{chars}
use Rattle.gr_tokens.specs.Tokens.{bigrams}
use Rattle.gr_tokens.proofs.tests.bigrams.Given as goal

abbrev pub invariant-loop-bigram : goal.invariant-loop-bigram
invariant-loop-bigram l = map (λ bigram. bigram.now) l.all.items ++ l.bigram-iterator ≡ bigrams (chars l.text)
