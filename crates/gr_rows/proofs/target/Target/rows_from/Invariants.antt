use Rattle.std.proofs.Common.{◌≡◌, ◌+◌, length, option_copied, option_map}
use Rattle.std.specs.List.{AllByRecursion}
use Rattle.std.specs.Vec.Iter.{into_iter_items, into_iter_len}
use Rattle.serde_json.specs.View.{items_view}
use Rattle.gr_db.specs.Entry.{IsPut}
use Rattle.gr_rows.specs.Inside.Places.{names_in}
use Rattle.gr_rows.specs.Rows.{rows_from}
use Rattle.gr_rows.proofs.RowsLemmas.{AreTaken}
use Rattle.gr_rows.proofs.target.Target.rows_from.Given as goal

abbrev pub invariant-loop-value : goal.invariant-loop-value
invariant-loop-value l = record {
  can_next : goal.iterator-loop-value.can_next l.value-iterator;
  finite : goal.iterator-loop-value.is_finite l.value-iterator;
  counted : l.row + into_iter_len l.value-iterator ≡ into_iter_len l.initial.value-iterator;
  lengths : into_iter_len l.value-iterator ≡ length (into_iter_items l.value-iterator);
  taken :
      AreTaken l.self.schema.now l.self.home.now (option_map names_in (option_copied l.places)) l.row l.puts.items
      (rows_from l.self.schema.now l.self.home.now (option_map names_in (option_copied l.places)) 1 (items_view l.fn.values.items))
      (into_iter_items l.value-iterator);
  fit : AllByRecursion (λ put. IsPut l.self.schema.now l.self.table put.key put.settings) l.puts.items;
}
