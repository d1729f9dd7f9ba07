-- The pieces before a near space are short, and a short text's.
use Rattle.std.proofs.Common.{◌≤◌, ◌+◌, length, arith}
use Rattle.std.proofs.lemmas.List.{take_rest}
use Rattle.gr_tokens.proofs.PlainLemmas.{short-text, short-more}
use Rattle.gr_tokens.proofs.plain.has_short_pieces.Goals as goal

pub loop-rest-preserved : goal.loop-rest-preserved
loop-rest-preserved c =
    let near = c.in-Some.ensures in
    rw (take_rest c.loop-rest.rest.now (c.in-Some.at + 1))
    (λ short. c.loop-rest.invariant (short-more c.loop-rest.rest.now c.in-Some.at near.0 near.1 near.2 short))

pub returns : goal.returns
returns c =
    let short : length c.loop-rest.rest.now ≤ 4096 = omega (arith, c.loop-rest-test.false) in
    λ _. c.loop-rest.invariant (short-text c.loop-rest.rest.now short)
