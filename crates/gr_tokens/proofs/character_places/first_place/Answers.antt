-- The first place by a search, and that no byte begins one where the search finds none.
use Rattle.std.proofs.Common.{refl, arith}
use Rattle.std.proofs.lemmas.List.{take_rest}
use Rattle.gr_tokens.proofs.BytePlaces.{differs, places-none, places-first, OccursAt-starts}
use Rattle.gr_tokens.proofs.character_places.first_place.Goals as goal

pub returns-in_err-at-clause-places : goal.returns-in_err-at-clause-places
returns-in_err-at-clause-places c =
    rw c.from_residual.ensures (places-none c.args.phrase.now c.requires c.args.text.now (λ k below. c.in_err-at.ensures k (omega arith) (omega arith)))

pub returns-clause-places : goal.returns-clause-places
returns-clause-places c =
    rw (take_rest c.args.text.now c.in_ok-at.at)
    (places-first c.args.phrase.now c.requires c.args.text.now c.in_ok-at.at (λ j below. c.in_ok-at.ensures.0.before j (omega arith) below))

pub returns-clause-here : goal.returns-clause-here
returns-clause-here c =
    rw (take_rest c.args.text.now c.in_ok-at.at) (OccursAt-starts c.args.text.now c.args.phrase.now c.in_ok-at.at c.in_ok-at.ensures.1)

pub returns-in_err-at-clause-first : goal.returns-in_err-at-clause-first
returns-in_err-at-clause-first c =
    rw c.from_residual.ensures (λ q low high. differs c.args.phrase.now c.requires c.args.text.now q (c.in_err-at.ensures q (omega arith) (omega arith)))

pub returns-clause-first : goal.returns-clause-first
returns-clause-first c =
    let found = c.in_ok-at.ensures in
    let high = found.0.high in
    rw (take_rest c.args.text.now c.in_ok-at.at)
    record {
      at = c.in_ok-at.at;
      low = omega arith;
      high = omega arith;
      is = refl;
      none = λ q low below. differs c.args.phrase.now c.requires c.args.text.now q (found.0.before q (omega arith) below);
      stands = OccursAt-starts c.args.text.now c.args.phrase.now c.in_ok-at.at found.1;
    }
