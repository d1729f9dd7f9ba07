-- No word is left.
use Rattle.std.proofs.Common.{sym, ap, ◌∙◌, drop, [], arith}
use Rattle.std.proofs.lemmas.List.{drop_all}
use Rattle.gr_tokens.proofs.WordLemmas.{words-empty}
use Rattle.gr_tokens.proofs.word_match.after_words.Goals as goal

pub returns-in-None : goal.returns-in-None
returns-in-None c =
    words-empty ∙ sym (drop_all c.loop-left.left [] (omega arith)) ∙ ap (drop c.loop-left.left) (sym c.in-None.ensures) ∙ c.loop-left.invariant.1
