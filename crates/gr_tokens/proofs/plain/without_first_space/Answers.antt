-- A space before the words is none of theirs.
use Rattle.std.proofs.Common.{sym, ◌<◌, length, arith}
use Rattle.std.proofs.lemmas.Bool.{eqb-false}
use Rattle.std.proofs.lemmas.List.{take_rest}
use Rattle.gr_tokens.proofs.PlainLemmas.{words-without_first}
use Rattle.gr_tokens.proofs.plain.without_first_space.Goals as goal

pub returns : goal.returns
returns c =
    let filled = eqb-false _ _ (sym c.if-is_empty.ensures) in
    let some : 0 < length c.args.text.now = omega (arith, filled) in
    rw (take_rest c.args.text.now 1) (words-without_first c.args.text.now some c.if-text-ne32.false)
