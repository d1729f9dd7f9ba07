-- The places before this one and those from it on are those in the text, up to the greatest count.
use Rattle.std.proofs.Common.{◌≡◌, ◌≤◌, ◌+◌, ◌-◌, min, nat_eq, length, drop, true}
use Rattle.std.specs.List.{starts_with}
use Rattle.gr_tokens.specs.Inside.Alone.{places_alone}
use Rattle.gr_tokens.proofs.AloneSteps.{alone_left}
use Rattle.gr_tokens.proofs.alone_places.alone_from.Given as goal

abbrev pub invariant-loop-next : goal.invariant-loop-next
invariant-loop-next l = record {
  most : l.count ≤ 2147483647;
  part : l.here ≡ drop (length l.text - length l.here) l.text;
  within : length l.here ≤ length l.text;
  begins : starts_with nat_eq l.here l.phrase ≡ true;
  counted : min (l.count + alone_left l.text l.phrase l.here) 2147483647 ≡ min (places_alone true l.text l.phrase) 2147483647;
}

abbrev pub decreases-loop-next : goal.decreases-loop-next
decreases-loop-next l = length l.here
