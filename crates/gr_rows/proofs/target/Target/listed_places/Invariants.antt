use Rattle.std.proofs.Common.{◌≡◌, ◌==◌, drop, filter, length, map, not, Some}
use Rattle.std.specs.List.{slice_split}
use Rattle.gr_rows.specs.Inside.Places.{ArePlaces, names_in}
use Rattle.gr_rows.specs.Names.{is_comma, listed_names, names_after, names_of, trimmed}
use Rattle.gr_rows.proofs.target.Target.listed_places.Given as goal

abbrev pub invariant-loop-name : goal.invariant-loop-name
invariant-loop-name l = record {
  can_next : goal.iterator-loop-name.can_next l.name-iterator;
  finite : goal.iterator-loop-name.is_finite l.name-iterator;
  taken :
      names_of l.self.schema.now l.self.home.now (map Some (listed_names l.columns))
      ≡ names_after l.self.schema.now l.self.home.now (names_in l.places)
      (map Some (filter (λ name. not (length name == 0)) (map trimmed (drop (length l.yielded) (slice_split is_comma l.columns)))));
  sound : ArePlaces l.self.schema.now l.self.home.now l.places;
}
