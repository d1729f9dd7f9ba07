-- A space after the words is none of theirs.
use Rattle.std.proofs.Common.{sym, ◌<◌, length, arith}
use Rattle.std.proofs.lemmas.Bool.{eqb-false}
use Rattle.gr_tokens.proofs.PlainLemmas.{words-without_last}
use Rattle.gr_tokens.proofs.plain.without_last_space.Goals as goal

pub returns : goal.returns
returns c =
    let filled = eqb-false _ _ (sym c.if-is_empty.ensures) in
    let some : 0 < length c.args.text.now = omega (arith, filled) in
    words-without_last c.args.text.now some c.if-text-ne32.false
