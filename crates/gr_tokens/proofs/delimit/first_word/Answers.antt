-- Each piece is a word, or is passed over.
use Rattle.std.proofs.Common.{◌∙◌, sym}
use Rattle.gr_tokens.proofs.WordLemmas.{words-word, words-other, words-last, words-none}
use Rattle.gr_tokens.proofs.delimit.first_word.Goals as goal

pub returns-then-is_word : goal.returns-then-is_word
returns-then-is_word c =
    c.loop-piece.invariant.1
    ∙ words-word c.loop-piece.rest.now c.in-Some.piece.now c.in-Some.after.now c.in-Some.ensures.pieces (sym c.is_word.ensures ∙ c.if-is_word.true)

pub loop-piece-preserved : goal.loop-piece-preserved
loop-piece-preserved c = (
  c.in-Some.ensures.utf8,
  c.loop-piece.invariant.1
      ∙ words-other c.loop-piece.rest.now c.in-Some.piece.now c.in-Some.after.now c.in-Some.ensures.pieces (sym c.is_word.ensures ∙ c.if-is_word.false),
)

pub returns-then-is_word-2 : goal.returns-then-is_word-2
returns-then-is_word-2 c =
    c.loop-piece.invariant.1 ∙ words-last c.loop-piece.rest.now c.in_default.ensures.pieces (sym c.is_word-2.ensures ∙ c.if-is_word-2.true)

pub returns-else-is_word-2 : goal.returns-else-is_word-2
returns-else-is_word-2 c =
    c.loop-piece.invariant.1 ∙ words-none c.loop-piece.rest.now c.in_default.ensures.pieces (sym c.is_word-2.ensures ∙ c.if-is_word-2.false)
