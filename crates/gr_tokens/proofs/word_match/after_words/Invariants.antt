-- What is left of the text after the words that are left to pass.
use Rattle.std.proofs.Common.{◌≡◌, drop}
use denote.Text.{Utf8}
use denote.Shadow.{shadow}
use Rattle.gr_tokens.specs.Tokens.{words}
use Rattle.gr_tokens.proofs.word_match.after_words.Given as goal

abbrev pub invariant-loop-left : goal.invariant-loop-left
invariant-loop-left l = shadow (Utf8 l.rest) × (drop l.left (words l.rest) ≡ drop l.count (words l.text))

abbrev pub decreases-loop-left : goal.decreases-loop-left
decreases-loop-left l = l.left
