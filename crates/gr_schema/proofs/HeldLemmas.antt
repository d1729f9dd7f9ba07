-- What a schema keeps beside its lists, after one more table or column.
use Rattle.std.proofs.Common.{◌≡◌, ◌<◌, ◌≤◌, ◌^◌, ℕ, List, [], ◌∷◌, ◌++◌, length, length-append, refl, sym, ap, subst, set, ◌∙◌, arith}
use Rattle.std.specs.Prelude.{if◌then◌else◌, None, Some, Option, slice_get}
use Rattle.std.specs.FinMap.{empty, get, insert}
use Rattle.std.proofs.lemmas.Option.{same_Some}
use Rattle.std.specs.Option.{option_map, option_map_or}
use Rattle.gr_base.specs.declared.numbers.ColumnNo.{ColumnNo}
use Rattle.gr_base.specs.Keys.{KeyMap}
use Rattle.gr_base.specs.declared.numbers.RecordId.{RecordId}
use Rattle.gr_base.specs.declared.numbers.TableNo.{TableNo}
use Rattle.gr_schema.specs.Inside.Held.{IsHeld}
use Rattle.gr_schema.specs.Inside.Names.{IsNumbered, record_id}
use Rattle.gr_schema.specs.Schema.{Extends, SchemaDef, changed_at, column_count, column_named, column_no, is_index, no_tables, table_with, with_column, with_table}
use Rattle.gr_schema.specs.Wishes.{IsColumnFor, IsTableFor}
use Rattle.gr_schema.specs.declared.definition.ColumnDef.{ColumnDef}
use Rattle.gr_schema.specs.declared.definition.TableDef.{TableDef}
use Rattle.gr_schema.proofs.ColumnLemmas.{IsNew, column_new, column_sound}
use Rattle.gr_schema.proofs.ExtendsLemmas.{extends_table}
use Rattle.gr_schema.proofs.ItemsLemmas.{changed_at_set, length-changed_at, position-changed}
use Rattle.gr_schema.proofs.NamesLemmas.{numbered_empty, numbered_push}
use Rattle.gr_schema.proofs.SoundLemmas.{sound_column, sound_empty, sound_table}
use Rattle.gr_schema.proofs.TableLemmas.{name_free, no_columns, table_sound}

-- no tables and no names
pub held_empty : IsHeld empty no_tables
held_empty = record { named = numbered_empty (λ table. table.name); few = omega arith; sound = sound_empty }

-- the name of a table that may be made has no number
pub table_unnamed : (names : KeyMap) (schema : SchemaDef) (table : TableDef) → IsHeld names schema → IsTableFor schema table → get names table.name ≡ None
table_unnamed names schema table held is = held.named.found table.name ∙ ap (option_map record_id) (name_free schema table is)

-- one more table
pub held_table : (names : KeyMap) (schema : SchemaDef) (table : TableDef) → IsHeld names schema → IsTableFor schema table → length schema.tables < 2 ^ 31
    → IsHeld (insert names table.name (record_id (length schema.tables))) (with_table schema table)
held_table names schema table held is few = record {
  named = numbered_push (λ t. t.name) names schema.tables table held.named (name_free schema table is);
  few = simp length-append (omega arith);
  sound = sound_table schema table held.sound (no_columns schema table is) (table_sound schema table is);
}

-- one more column
pub held_column : (names : KeyMap) (schema : SchemaDef) (table : TableNo) (column : ColumnDef) → IsHeld names schema → IsColumnFor schema table column → IsHeld names (with_column schema table column)
held_column names schema table column held is =
    let new = column_new schema table column is in
    record {
      named = record { found = λ name. held.named.found name ∙ ap (option_map record_id) (sym (position-changed _ table.0 (table_with column) schema.tables (λ t. refl))) };
      few = rw (length-changed_at table.0 (table_with column) schema.tables) held.few;
      sound = sound_column schema table column new.home new.there held.sound (column_sound schema table column new);
    }

-- its name is none of its table's
pub column_unnamed : (schema : SchemaDef) (table : TableNo) (column : ColumnDef) (home : TableDef) → IsColumnFor schema table column → slice_get schema.tables table.0 ≡ Some home → column_named home column.name ≡ None
column_unnamed schema table column home is there =
    let new = column_new schema table column is in
    let same : new.home ≡ home = same_Some new.home home (sym new.there ∙ there) in
    subst (λ (h : TableDef). column_named h column.name ≡ None) same (ap (option_map column_no) new.free)

-- one more table, as it was made
pub held_table_made : (names made : KeyMap) (tables more : List TableDef) (indexes same : List (TableNo × ColumnNo)) (table : TableDef) (name : List ℕ) (n : ℕ)
    → IsHeld names (record { tables = tables; indexes = indexes }) → IsTableFor (record { tables = tables; indexes = indexes }) table → length tables < 2 ^ 31
    → name ≡ table.name → n ≡ length tables → made ≡ insert names name (record_id n) → more ≡ tables ++ table ∷ [] → same ≡ indexes → IsHeld made (record { tables = more; indexes = same })
held_table_made names made tables more indexes same table name n held is few named at made_is more_is same_is =
    rw (made_is, more_is, same_is, named, at) (held_table names (record { tables = tables; indexes = indexes }) table held is few)

pub extends_table_made : (schema : SchemaDef) (tables more : List TableDef) (indexes same : List (TableNo × ColumnNo)) (table : TableDef) → ◌≡◌ {A = SchemaDef} (record { tables = tables; indexes = indexes }) schema
    → more ≡ tables ++ table ∷ [] → same ≡ indexes → Extends (record { tables = more; indexes = same }) schema
extends_table_made schema tables more indexes same table is more_is same_is = rw (more_is, same_is, ← is) (extends_table (record { tables = tables; indexes = indexes }) table)

-- one more column, as it was made
pub column_made : (schema : SchemaDef) (table : TableNo) (column : ColumnDef) (home changed : TableDef) (tables more : List TableDef) (indexes same : List (TableNo × ColumnNo)) (n : ℕ)
    → ◌≡◌ {A = SchemaDef} (record { tables = tables; indexes = indexes }) schema → slice_get schema.tables table.0 ≡ Some home → changed ≡ table_with column home → more ≡ set tables table.0 changed
    → n ≡ length home.columns → same ≡ indexes ++ (if is_index column.role then (table, column_no n) ∷ [] else []) → ◌≡◌ {A = SchemaDef} (record { tables = more; indexes = same }) (with_column schema table column)
column_made schema table column home changed tables more indexes same n is there changed_is more_is at same_is =
    let tables_is : tables ≡ schema.tables = ap (λ (s : SchemaDef). s.tables) is in
    let indexes_is : indexes ≡ schema.indexes = ap (λ (s : SchemaDef). s.indexes) is in
    let count : column_count schema table ≡ length home.columns = ap (λ o. option_map_or (λ (def : TableDef). length def.columns) o 0) there in
    let more_tables : more ≡ changed_at table.0 (table_with column) schema.tables =
    more_is ∙ ap (λ xs. set xs table.0 changed) tables_is ∙ ap (set schema.tables table.0) changed_is ∙ changed_at_set table.0 (table_with column) schema.tables home there in
    let more_indexes : same ≡ schema.indexes ++ (if is_index column.role then (table, column_no (column_count schema table)) ∷ [] else []) =
    same_is ∙ ap (λ xs. xs ++ (if is_index column.role then (table, column_no n) ∷ [] else [])) indexes_is
    ∙ ap (λ m. schema.indexes ++ (if is_index column.role then (table, column_no m) ∷ [] else [])) (at ∙ sym count) in
    λ i. record { tables = more_tables i; indexes = more_indexes i }
