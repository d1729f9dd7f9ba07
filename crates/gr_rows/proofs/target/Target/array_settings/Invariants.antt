use Rattle.std.proofs.Common.{◌≡◌, length}
use Rattle.std.specs.Iterator.Adapters.{zip_first, zip_second}
use Rattle.std.specs.List.{AllByRecursion}
use Rattle.std.specs.Slice.Iter.{iter_rest}
use Rattle.std.specs.Vec.Iter.{into_iter_items, into_iter_len}
use Rattle.gr_db.specs.Entry.{IsSetting}
use Rattle.gr_rows.specs.Inside.Places.{IsNamed}
use Rattle.gr_rows.specs.Members.{settings_of}
use Rattle.gr_rows.proofs.ArrayLemmas.{column_members}
use Rattle.gr_rows.proofs.SettingsLemmas.{AreSet}
use Rattle.gr_rows.proofs.target.Target.array_settings.Given as goal

abbrev pub invariant-loop-named : goal.invariant-loop-named
invariant-loop-named l = record {
  can_next : goal.iterator-loop-named.can_next l.named-iterator;
  finite : goal.iterator-loop-named.is_finite l.named-iterator;
  set :
      AreSet l.self.schema.now l.self.home.now l.row (settings_of l.self.schema.now l.self.home.now l.row (column_members l.columns l.fn.values.items))
      l.settings.items (column_members (iter_rest (zip_first l.named-iterator)) (into_iter_items (zip_second l.named-iterator)));
  lengths : into_iter_len (zip_second l.named-iterator) ≡ length (into_iter_items (zip_second l.named-iterator));
  named : AllByRecursion (IsNamed l.self.schema.now l.self.home.now) (iter_rest (zip_first l.named-iterator));
  each : AllByRecursion (IsSetting l.self.schema.now l.self.table) l.settings.items;
}
