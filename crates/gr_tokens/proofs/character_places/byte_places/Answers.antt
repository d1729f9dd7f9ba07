-- Without bytes in the phrase.
use Rattle.std.proofs.Common.{nat_eq, sym, arith}
use Rattle.std.proofs.lemmas.Bool.{eqb-true}
use Rattle.gr_tokens.proofs.PlaceSteps.{places-no_elements}
use Rattle.gr_tokens.proofs.character_places.byte_places.Goals as goal

pub returns-then-is_empty : goal.returns-then-is_empty
returns-then-is_empty c =
    let none = places-no_elements nat_eq c.args.text.now c.args.phrase.now (eqb-true _ _ (sym c.if-is_empty.ensures)) in
    omega (arith, none)
