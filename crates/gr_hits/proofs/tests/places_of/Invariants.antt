use Rattle.std.specs.List.{AllByRecursion}
use Rattle.gr_hits.specs.Places.{Place, IsBefore}
use Rattle.gr_hits.proofs.tests.places_of.Given as goal

abbrev pub invariant-pairs : goal.invariant-pairs
invariant-pairs l = AllByRecursion (λ (place : Place). IsBefore place (record { 0 = l.last }, l.next)) l.list
