use Rattle.std.proofs.Common.{◌≡◌, ◌<◌, ◌^◌, ◌∷◌, ◌++◌, [], ◌∙◌, ap, length, set, sym, subst, arith}
use Rattle.std.specs.Option.{option_map, option_map_or}
use Rattle.std.specs.Prelude.{None, Some, slice_get}
use Rattle.std.proofs.lemmas.Option.{none-some, slice_get_within}
use Rattle.gr_schema.specs.Inside.Held.{IsHeld, list_of}
use Rattle.gr_schema.specs.Schema.{Extends, SchemaDef, column_count, with_column}
use Rattle.gr_schema.specs.Wishes.{IsColumnFor}
use Rattle.gr_schema.specs.declared.definition.TableDef.{TableDef}
use Rattle.gr_schema.proofs.ColumnLemmas.{column_new}
use Rattle.gr_schema.proofs.ExtendsLemmas.{extends_column}
use Rattle.gr_schema.proofs.HeldLemmas.{column_made, column_unnamed, held_column}
use Rattle.gr_schema.proofs.schema.Schema.with_column.Goals as goal
use Rattle.gr_schema.proofs.schema.Schema.with_column.Goals.{In_ok-names}

pub unreachable-requires : goal.unreachable-requires
unreachable-requires c =
    let new = column_new c.args.self.now c.args.table c.args.def c.requires.wished in
    none-some new.home (sym (sym c.table_at.ensures ∙ ap (option_map (λ home. home.now)) c.in_default.is) ∙ new.there)

pub with-requires-clause-new : goal.with-requires-clause-new
with-requires-clause-new c =
    column_unnamed c.args.self.now c.args.table c.args.def c.in-Some.home.now c.requires.wished (sym c.table_at.ensures ∙ ap (option_map (λ home. home.now)) c.in-Some.is)

pub with-requires-2 : goal.with-requires-2
with-requires-2 c =
    let new = column_new c.args.self.now c.args.table c.args.def c.requires.wished in
    subst (λ (s : SchemaDef). c.args.table.0 < length s.tables) (sym c.self.view_is) (slice_get_within c.args.self.now.tables c.args.table.0 new.home new.there)

module _ (c : goal.In_ok-names) where
  there : slice_get c.args.self.now.tables c.args.table.0 ≡ Some c.in-Some.home.now
  there = sym c.table_at.ensures ∙ ap (option_map (λ home. home.now)) c.in-Some.is

  few : length c.in-Some.home.now.columns < 2 ^ 31
  few = subst (λ n. n < 2 ^ 31) (ap (λ o. option_map_or (λ (def : TableDef). length def.columns) o 0) there) c.requires.few

  len : c.len-number.result ≡ length c.in-Some.home.now.columns
  len = c.len-number.ensures ∙ ap (λ (def : TableDef). length def.columns) c.def.ensures

  made : ◌≡◌ {A = SchemaDef} (record { tables = c.in_ok-tables.tables; indexes = list_of c.in_ok-indexes.indexes }) (with_column c.args.self.now c.args.table c.args.def)
  made =
      column_made c.args.self.now c.args.table c.args.def c.in-Some.home.now c.in_ok-changed.changed c.self.inside.tables c.in_ok-tables.tables (list_of c.self.inside.indexes) (list_of c.in_ok-indexes.indexes) _
      c.self.view_is there c.in_ok-changed.ensures (c.in_ok-tables.ensures ∙ ap (set c.self.inside.tables c.args.table.0) c.in_ok-kept.ensures.ok) (omega (arith, few, len)) c.in_ok-indexes.ensures

pub invariant_of-result : goal.invariant_of-result
invariant_of-result c =
    let held : IsHeld c.self.inside.names c.args.self.now = subst (IsHeld c.self.inside.names) c.self.view_is c.self.invariant in
    rw (made c, c.in_ok-names.ensures) (held_column c.self.inside.names c.args.self.now c.args.table c.args.def held c.requires.wished)

pub returns-clause-exact : goal.returns-clause-exact
returns-clause-exact c = made (goal.at.returns-clause-exact c).In_ok-names

pub returns-clause-extends : goal.returns-clause-extends
returns-clause-extends c = rw (made (goal.at.returns-clause-extends c).In_ok-names) (extends_column c.args.self.now c.args.table c.args.def)
