-- The next place follows at once, or is the first one that begins far enough on.
use Rattle.std.proofs.Common.{ℕ, List, Bor, MatchOption, ◌≡◌, ◌+◌, ◌∙◌, refl, sym, arith, length, nat_eq}
use Rattle.std.proofs.lemmas.Bool.Decides.{Decides-eqb}
use Rattle.std.proofs.lemmas.List.{take_rest}
use Rattle.std.specs.Prelude.{Option, None, Some}
use Rattle.gr_tokens.specs.Places.{places}
use Rattle.gr_tokens.proofs.BytePlaces.{near-none, next-further, places-after, starts-fits}
use Rattle.gr_tokens.proofs.Shifts.{starts-again}
use Rattle.gr_tokens.proofs.character_places.next_place.Goals as goal

-- the place here, and those from the next one on
one_more : (phrase : List ℕ) (all later : ℕ) (next : Option (Bor (List ℕ))) → all ≡ 1 + later → MatchOption next (later ≡ 0) (λ first. later ≡ places nat_eq first.now phrase) → MatchOption next (all ≡ 1) (λ first. all ≡ 1 + places nat_eq first.now phrase)
one_more phrase all later None split none = omega arith
one_more phrase all later (Some first) split same = omega arith

pub returns-then-starts_with-clause-places : goal.returns-then-starts_with-clause-places
returns-then-starts_with-clause-places c =
    rw (take_rest c.args.text.now c.args.overlap.now.apart)
    (places-after c.args.phrase.now c.args.overlap.now.apart c.args.text.now c.requires.some c.requires.here c.requires.overlap.low c.requires.overlap.high c.requires.overlap.none_nearer)

pub returns-then-starts_with-clause-here : goal.returns-then-starts_with-clause-here
returns-then-starts_with-clause-here c =
    let tail = rw c.in-Some.is at c.requires.overlap.tail in
    let follows = rw (c.needle.ensures, take_rest c.args.text.now (length c.args.phrase.now), tail.1) at (sym c.starts_with.ensures.value ∙ c.if-starts_with.true) in
    rw (take_rest c.args.text.now c.args.overlap.now.apart)
    (starts-again nat_eq Decides-eqb c.args.overlap.now.apart c.args.text.now c.args.phrase.now c.requires.overlap.high c.requires.here tail.0 follows)

pub returns-clause-places : goal.returns-clause-places
returns-clause-places c =
    let after = places-after c.args.phrase.now c.args.overlap.now.apart c.args.text.now c.requires.some c.requires.here c.requires.overlap.low c.requires.overlap.high c.requires.overlap.none_nearer in
    let found = rw (take_rest c.args.text.now c.args.overlap.now.apart) at c.first_place.ensures.places in
    one_more c.args.phrase.now (places nat_eq c.args.text.now c.args.phrase.now) _ c.first_place.result after found

pub returns-then-starts_with-clause-next : goal.returns-then-starts_with-clause-next
returns-then-starts_with-clause-next c =
    let apart = c.args.overlap.now.apart in
    let fits = starts-fits c.args.text.now c.args.phrase.now c.requires.here in
    let tail = rw c.in-Some.is at c.requires.overlap.tail in
    let follows = rw (c.needle.ensures, take_rest c.args.text.now (length c.args.phrase.now), tail.1) at (sym c.starts_with.ensures.value ∙ c.if-starts_with.true) in
    rw (take_rest c.args.text.now c.args.overlap.now.apart)
    record {
      at = c.args.overlap.now.apart;
      low = omega (arith, c.requires.overlap.low);
      high = omega (arith, c.requires.overlap.high);
      is = refl;
      none = near-none c.args.phrase.now c.args.overlap.now.apart c.args.text.now c.requires.here c.requires.overlap.high c.requires.overlap.none_nearer;
      stands = starts-again nat_eq Decides-eqb c.args.overlap.now.apart c.args.text.now c.args.phrase.now c.requires.overlap.high c.requires.here tail.0 follows;
    }

pub returns-clause-next : goal.returns-clause-next
returns-clause-next c =
    let fits = starts-fits c.args.text.now c.args.phrase.now c.requires.here in
    let near = near-none c.args.phrase.now c.args.overlap.now.apart c.args.text.now c.requires.here c.requires.overlap.high c.requires.overlap.none_nearer in
    let found = rw (take_rest c.args.text.now c.args.overlap.now.apart) at c.first_place.ensures.first in
    next-further c.args.text.now c.args.phrase.now c.args.overlap.now.apart near (omega (arith, c.requires.overlap.high)) c.requires.overlap.low c.first_place.result found
