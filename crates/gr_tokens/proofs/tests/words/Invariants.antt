-- The words so far and those left are those of the text.
use Rattle.std.proofs.Common.{◌≡◌, ◌++◌, map}
use Rattle.gr_tokens.specs.Tokens.{words}
use Rattle.gr_tokens.proofs.tests.words.Given as goal

abbrev pub invariant-loop-word : goal.invariant-loop-word
invariant-loop-word l = map (λ word. word.now) l.all.items ++ l.word-iterator ≡ words l.text
