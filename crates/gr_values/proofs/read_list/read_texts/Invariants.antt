use Rattle.std.specs.List.{AllByRecursion}
use Rattle.std.specs.Vec.Iter.{into_iter_items}
use Rattle.serde_json.specs.View.{items_view}
use Rattle.gr_values.specs.Fits.{IsTextWithin}
use Rattle.gr_values.specs.Values.{text_of}
use Rattle.gr_values.proofs.Reading.{AreRead}
use Rattle.gr_values.proofs.read_list.read_texts.Given as goal

abbrev pub invariant-loop-value : goal.invariant-loop-value
invariant-loop-value l = record {
  can_next : goal.iterator-loop-value.can_next l.value-iterator;
  finite : goal.iterator-loop-value.is_finite l.value-iterator;
  taken : AreRead (text_of l.fn.limit) (items_view l.fn.values.items) l.texts.items (into_iter_items l.value-iterator);
  each : AllByRecursion (IsTextWithin l.fn.limit) l.texts.items;
}
