-- The first character and the next one are taken off, or the last one.
use Rattle.std.proofs.lemmas.Slice.{between_from_start}
use Rattle.gr_tokens.proofs.BigramLemmas.{bigrams-empty, StartsWithBigram-chars, front-boundary, bigrams-first}
use Rattle.gr_tokens.proofs.bigram.first_bigram.Goals as goal

pub returns-in_err-next : goal.returns-in_err-next
returns-in_err-next c =
    let none = rw c.chars-chars.ensures.rest at c.in_err-next.ensures.steps.0 in
    rw c.from_residual.ensures (bigrams-empty c.args.text.now none.0)

pub range-requires-clause-end_boundary : goal.range-requires-clause-end_boundary
range-requires-clause-end_boundary c =
    let split = rw c.chars-chars.ensures.rest at c.in_ok-next.ensures.steps.0 in
    let starts = StartsWithBigram-chars c.args.text.now c.next.new.self c.next-2.new.self c.in_ok-next.field-0 c.next-2.result c.utf8.text split c.next-2.ensures.steps.0 in
    rw c.as_str.ensures (front-boundary _ _ _ starts (rw c.as_str.ensures at c.as_str.utf8))

pub returns : goal.returns
returns c =
    let split = rw c.chars-chars.ensures.rest at c.in_ok-next.ensures.steps.0 in
    let starts = StartsWithBigram-chars c.args.text.now c.next.new.self c.next-2.new.self c.in_ok-next.field-0 c.next-2.result c.utf8.text split c.next-2.ensures.steps.0 in
    rw (c.range.ensures.value, between_from_start c.args.text.now, c.as_str.ensures, c.as_str-rest.ensures) (bigrams-first _ _ _ starts)
