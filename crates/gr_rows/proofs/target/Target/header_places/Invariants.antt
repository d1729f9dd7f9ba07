use Rattle.std.specs.Vec.Iter.{into_iter_items}
use Rattle.serde_json.specs.View.{items_view}
use Rattle.gr_rows.specs.Inside.Places.{ArePlaces, names_in}
use Rattle.gr_rows.specs.Names.{header_names, names_after, names_of}
use Rattle.std.proofs.Common.{◌≡◌}
use Rattle.gr_rows.proofs.target.Target.header_places.Given as goal

abbrev pub invariant-loop-element : goal.invariant-loop-element
invariant-loop-element l = record {
  can_next : goal.iterator-loop-element.can_next l.element-iterator;
  finite : goal.iterator-loop-element.is_finite l.element-iterator;
  taken :
      names_of l.self.schema.now l.self.home.now (header_names (items_view l.fn.header.items))
      ≡ names_after l.self.schema.now l.self.home.now (names_in l.places) (header_names (items_view (into_iter_items l.element-iterator)));
  sound : ArePlaces l.self.schema.now l.self.home.now l.places;
}
