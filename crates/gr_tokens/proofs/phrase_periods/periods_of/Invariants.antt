-- The phrase is looked for in itself, from this place on.
use Rattle.std.proofs.Common.{◌≡◌, ◌≤◌, ◌-◌, true, length, drop}
use Rattle.gr_tokens.specs.Inside.Kept.{ArePeriodsBelow}
use Rattle.gr_tokens.specs.Inside.Matches.{IsMatch}
use Rattle.gr_tokens.specs.Tokens.{words}
use Rattle.gr_tokens.proofs.phrase_periods.periods_of.Given as goal

abbrev pub invariant-loop-periods : goal.invariant-loop-periods
invariant-loop-periods l = record {
  is_match : IsMatch l.here;
  phrase : l.here.phrase.now ≡ l.phrase;
  text : words l.here.text.now ≡ drop l.place (words l.phrase);
  least : 1 ≤ l.place;
  most : l.place ≤ length (words l.phrase);
  all : l.periods.all ≡ true;
  below : ArePeriodsBelow (words l.phrase) l.periods l.place;
}

abbrev pub decreases-loop-periods : goal.decreases-loop-periods
decreases-loop-periods l = length (words l.phrase) - l.place
