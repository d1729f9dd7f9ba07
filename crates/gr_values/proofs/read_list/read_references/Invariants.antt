use Rattle.std.specs.List.{AllByRecursion}
use Rattle.std.specs.Vec.Iter.{into_iter_items}
use Rattle.serde_json.specs.View.{items_view}
use Rattle.gr_values.specs.Fits.{IsKeyOf}
use Rattle.gr_values.proofs.References.{AreKept}
use Rattle.gr_values.proofs.read_list.read_references.Given as goal

abbrev pub invariant-loop-value : goal.invariant-loop-value
invariant-loop-value l = record {
  can_next : goal.iterator-loop-value.can_next l.value-iterator;
  finite : goal.iterator-loop-value.is_finite l.value-iterator;
  kept : AreKept l.fn.of (items_view l.fn.values.items) l.keys.items (into_iter_items l.value-iterator);
  each : AllByRecursion (IsKeyOf l.fn.of) l.keys.items;
}
