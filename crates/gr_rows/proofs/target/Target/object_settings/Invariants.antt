use Rattle.std.specs.List.{AllByRecursion}
use Rattle.gr_db.specs.Entry.{IsSetting}
use Rattle.gr_rows.specs.Members.{settings_of}
use Rattle.gr_rows.proofs.ObjectLemmas.{members_at}
use Rattle.gr_rows.proofs.SettingsLemmas.{AreSet}
use Rattle.gr_rows.proofs.target.Target.object_settings.Given as goal

abbrev pub invariant-loop-name : goal.invariant-loop-name
invariant-loop-name l = record {
  can_next : goal.iterator-loop-name.can_next l.name-iterator;
  finite : goal.iterator-loop-name.is_finite l.name-iterator;
  set :
      AreSet l.self.schema.now l.self.home.now l.row (settings_of l.self.schema.now l.self.home.now l.row (members_at l.fn.members.entries))
      l.settings.items (members_at l.name-iterator);
  each : AllByRecursion (IsSetting l.self.schema.now l.self.table) l.settings.items;
}
