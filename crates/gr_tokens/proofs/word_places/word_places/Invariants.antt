-- The places found and those among the words left are those in the text, up to the greatest count.
use Rattle.std.proofs.Common.{◌≡◌, ◌≤◌, ◌+◌, min, length}
use Rattle.std.specs.Str.{bytes_eq}
use Rattle.gr_tokens.specs.Inside.Matches.{IsMatch}
use Rattle.gr_tokens.specs.Places.{places}
use Rattle.gr_tokens.specs.Tokens.{words}
use Rattle.gr_tokens.proofs.word_places.word_places.Given as goal

abbrev pub invariant-loop-count : goal.invariant-loop-count
invariant-loop-count l = record {
  is_match : IsMatch l.here;
  phrase : l.here.phrase.now ≡ l.phrase;
  most : l.count ≤ 2147483647;
  counted : min (l.count + places bytes_eq (words l.here.text.now) (words l.phrase)) 2147483647 ≡ min (places bytes_eq (words l.text) (words l.phrase)) 2147483647;
}

abbrev pub decreases-loop-count : goal.decreases-loop-count
decreases-loop-count l = length (words l.here.text.now)
