-- No piece is empty, since no space is first, last or beside another.
use Rattle.std.proofs.Common.{◌≡◌, ◌<◌, ◌-◌, sym, ap, ◌∙◌, length, get_or, arith}
use Rattle.std.proofs.lemmas.Bool.{eqb-false}
use Rattle.gr_tokens.proofs.PlainLemmas.{double-occurs, pieces-some, words-plain}
use Rattle.gr_tokens.proofs.plain.is_plain.Goals as goal

pub returns-in-None-clause-words : goal.returns-in-None-clause-words
returns-in-None-clause-words c =
    let text = c.args.text.now in
    let filled = eqb-false _ _ (sym c.if-is_empty.ensures) in
    let some : 0 < length c.args.text.now = omega (arith, filled) in
    λ is.
    words-plain c.args.text.now
    (pieces-some c.args.text.now
    (λ k below one two. c.in-None.ensures k (omega arith) (omega arith) (double-occurs c.args.text.now k below one two))
    (λ k at byte. let last : length c.args.text.now - 1 ≡ k = omega arith in c.if-text-eq32-2.false (ap (λ i. get_or c.args.text.now i 0) last ∙ byte))
    (some, c.if-text-eq32.false))
    (c.has_short_pieces.ensures is)
