-- Each text goes on after the space.
use Rattle.std.proofs.Common.{◌<◌, get_or, add-one, take, arith}
use Rattle.std.proofs.lemmas.Str.{IsCharBoundary-after_ascii}
use Rattle.gr_tokens.proofs.SameWords.{words-same}
use Rattle.gr_tokens.proofs.same_word.after_same_word.Goals as goal

pub range_from-requires : goal.range_from-requires
range_from-requires c =
    let at = rw (c.as_bytes.ensures.value, c.as_bytes-2.ensures.value) at c.in_ok-end.ensures in
    let space = at.space in
    let ascii : get_or c.args.text.now c.in_ok-end.end 0 < 128 = omega arith in
    λ _. IsCharBoundary-after_ascii c.args.text.now c.in_ok-end.end c.utf8.text at.in_text ascii

pub range_from-requires-2 : goal.range_from-requires-2
range_from-requires-2 c =
    let at = rw (c.as_bytes.ensures.value, c.as_bytes-2.ensures.value) at c.in_ok-end.ensures in
    let space = at.space_too in
    let ascii : get_or c.args.phrase.now c.in_ok-end.end 0 < 128 = omega arith in
    λ _. IsCharBoundary-after_ascii c.args.phrase.now c.in_ok-end.end c.utf8.phrase at.in_phrase ascii

pub returns : goal.returns
returns c =
    let at = rw (c.as_bytes.ensures.value, c.as_bytes-2.ensures.value) at c.in_ok-end.ensures in
    let both = words-same c.args.text.now c.args.phrase.now c.in_ok-end.end at in
    (take c.in_ok-end.end c.args.text.now, rw (c.range_from.ensures.value, add-one) both.0, rw (c.range_from-2.ensures.value, add-one) both.1)
