-- The first space by a search for the byte.
use Rattle.std.proofs.Common.{◌≡◌, ◌<◌, get_or, add-one, arith}
use Rattle.std.proofs.lemmas.Bool.{eqb-true}
use Rattle.std.proofs.lemmas.Slice.{between_from_start}
use Rattle.std.proofs.lemmas.Str.{IsCharBoundary-after_ascii}
use Rattle.gr_tokens.proofs.SpaceLemmas.{slice_split-none, slice_split-first}
use Rattle.gr_tokens.specs.Tokens.{is_space}
use Rattle.gr_tokens.proofs.delimit.cut_at_space.Goals as goal

pub returns-in_err-at-clause-pieces : goal.returns-in_err-at-clause-pieces
returns-in_err-at-clause-pieces c =
    let none = rw c.as_bytes.ensures.value at c.in_err-at.ensures in
    rw c.from_residual.ensures (slice_split-none is_space c.args.text.now (λ k below. none k (omega arith) below))

pub range_from-requires : goal.range_from-requires
range_from-requires c =
    let found = rw c.as_bytes.ensures.value at c.in_ok-at.ensures in
    let space : get_or c.args.text.now c.in_ok-at.at 0 ≡ 32 = eqb-true _ _ found.1 in
    let ascii : get_or c.args.text.now c.in_ok-at.at 0 < 128 = omega arith in
    λ _. IsCharBoundary-after_ascii c.args.text.now c.in_ok-at.at c.utf8.text found.0.high ascii

pub returns-clause-pieces : goal.returns-clause-pieces
returns-clause-pieces c =
    let found = rw c.as_bytes.ensures.value at c.in_ok-at.ensures in
    let first = slice_split-first is_space c.args.text.now c.in_ok-at.at found.0.high (λ j below. found.0.before j (omega arith) below) found.1 in
    rw (c.range.ensures.value, c.range_from.ensures.value, between_from_start c.args.text.now c.in_ok-at.at, add-one) first
