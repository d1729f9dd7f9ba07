-- The places before this one and those from it on are those in the text, up to the greatest count.
use Rattle.std.proofs.Common.{◌≡◌, ◌≤◌, ◌+◌, min, nat_eq, length, true}
use Rattle.std.specs.List.{starts_with}
use Rattle.gr_tokens.specs.Places.{places}
use Rattle.gr_tokens.proofs.character_places.places_from.Given as goal

abbrev pub invariant-loop-next : goal.invariant-loop-next
invariant-loop-next l = record {
  some : 1 ≤ l.count;
  most : l.count ≤ 2147483647;
  begins : starts_with nat_eq l.here l.phrase ≡ true;
  counted : min (l.count + places nat_eq l.here l.phrase) 2147483648 ≡ min (1 + places nat_eq l.text l.phrase) 2147483648;
}

abbrev pub decreases-loop-next : goal.decreases-loop-next
decreases-loop-next l = length l.here
