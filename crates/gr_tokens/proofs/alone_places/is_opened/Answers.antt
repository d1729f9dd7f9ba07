-- The byte before a place, if it is not the first.
use Rattle.std.proofs.Common.{sym, ◌∙◌, ◌<◌, arith}
use Rattle.std.proofs.lemmas.Bool.{eq-eqb}
use Rattle.std.specs.Prelude.{true}
use Rattle.gr_tokens.proofs.AloneSteps.{opens-zero, opens-before}
use Rattle.gr_tokens.proofs.alone_places.is_opened.Goals as goal

pub returns-then-at-eq0 : goal.returns-then-at-eq0
returns-then-at-eq0 c = eq-eqb c.args.at 0 c.if-at-eq0.true ∙ sym (opens-zero true c.args.text.now c.args.at c.if-at-eq0.true)

pub returns-else-at-eq0 : goal.returns-else-at-eq0
returns-else-at-eq0 c =
    let later = c.if-at-eq0.false in
    let some : 0 < c.args.at = omega (arith, later) in
    sym (opens-before true c.args.text.now c.args.at some c.requires)
