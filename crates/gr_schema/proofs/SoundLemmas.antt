-- A schema stays sound with one more table or column that is sound itself.
use Rattle.std.proofs.Common.{ℕ, zero, suc, ◌≡◌, ◌≢◌, ◌⊎◌, inl, inr, Bool, true, false, cond, List, [], ◌∷◌, ◌++◌, length, refl, sym, ap, subst, ◌∙◌, arith}
use Rattle.std.specs.Prelude.{if◌then◌else◌, None, Some, Option, slice_get}
use Rattle.std.specs.Option.{option_and_then, option_map, option_map_or}
use Rattle.std.specs.List.{position}
use Rattle.std.specs.Str.{bytes_eq}
use Rattle.std.proofs.lemmas.List.{append-nil}
use Rattle.std.proofs.lemmas.Option.{none-some, same_Some}
use Rattle.gr_base.specs.declared.numbers.ColumnNo.{ColumnNo}
use Rattle.gr_base.specs.declared.numbers.TableNo.{TableNo}
use Rattle.gr_schema.specs.Schema.{Extends, ExtendsTable, SchemaDef, changed_at, column_at, column_count, column_named, column_no, is_index, no_tables, table_at, table_named, table_no, table_with, with_column, with_table}
use Rattle.gr_schema.specs.Sound.{IsColumn, IsIndexColumn, IsSound, IsTable, Stands}
use Rattle.gr_schema.specs.declared.definition.ColumnDef.{ColumnDef}
use Rattle.gr_schema.specs.declared.definition.TableDef.{TableDef}
use Rattle.gr_schema.proofs.ExtendsLemmas.{extends_column, extends_table, one_or_not}
use Rattle.gr_schema.proofs.GrowsLemmas.{column_holds, table_holds}
use Rattle.gr_schema.proofs.ItemsLemmas.{position-changed, position_left, slice_get-changed_other, slice_get-changed_same, slice_get_end, slice_get_left, slice_get_none, slice_get_push}

-- the schema without tables is sound
pub sound_empty : IsSound no_tables
sound_empty = record {
  tables = λ n table e. absurd (none-some table e);
  listed = λ index there. absurd (none-some index there.1);
  complete = λ index is. absurd (none-some is.column is.there);
  once = λ i j index there other. absurd (none-some index there);
}

-- where a name led to a table it still does, where there is one more
name_left : (schema : SchemaDef) (table : TableDef) (name : List ℕ) (n : ℕ) → table_named schema name ≡ Some (table_no n) → table_named (with_table schema table) name ≡ Some (table_no n)
name_left schema table name n e = go (position (λ def. bytes_eq def.name name) schema.tables) refl e
  where
    go : (o : Option ℕ) → position (λ def. bytes_eq def.name name) schema.tables ≡ o → option_map table_no o ≡ Some (table_no n) → table_named (with_table schema table) name ≡ Some (table_no n)
    go None is e = absurd (none-some (table_no n) e)
    go (Some m) is e = ap (option_map table_no) (position_left (λ def. bytes_eq def.name name) schema.tables (table ∷ []) m is) ∙ e

-- a column stands in the table that its schema has at that number
pub column_there : (schema : SchemaDef) (index : TableNo × ColumnNo) (column : ColumnDef) → column_at schema index.0 index.1 ≡ Some column
    → (home : TableDef) × (slice_get schema.tables index.0.0 ≡ Some home) × (slice_get home.columns index.1.0 ≡ Some column)
column_there schema index column e = go (slice_get schema.tables index.0.0) refl e
  where
    go : (o : Option TableDef) → slice_get schema.tables index.0.0 ≡ o → option_and_then (λ home. slice_get home.columns index.1.0) o ≡ Some column
        → (home : TableDef) × (slice_get schema.tables index.0.0 ≡ Some home) × (slice_get home.columns index.1.0 ≡ Some column)
    go None is e = absurd (none-some column e)
    go (Some home) is e = (home, is, e)

-- and the other way round
column_from : (schema : SchemaDef) (table : TableNo) (n : ℕ) (home : TableDef) (column : ColumnDef) → slice_get schema.tables table.0 ≡ Some home → slice_get home.columns n ≡ Some column
    → column_at schema table (column_no n) ≡ Some column
column_from schema table n home column there at = ap (option_and_then (λ def. slice_get def.columns n)) there ∙ at

-- an index column of a schema is one of every schema that goes on from it
index_stays : (new old : SchemaDef) → Extends new old → (index : TableNo × ColumnNo) → IsIndexColumn old index → IsIndexColumn new index
index_stays new old grown index is =
    let parts = column_there old index is.column is.there in
    let there = grown.tables index.0.0 parts.0 parts.1 in
    let same : there.0.columns ≡ parts.0.columns ++ there.2.more = ap (λ (t : TableDef). t.columns) there.2.is in
    record {
      column = is.column;
      there = column_from new index.0 index.1.0 there.0 is.column there.1
          (ap (λ columns. slice_get columns index.1.0) same ∙ slice_get_left parts.0.columns there.2.more index.1.0 is.column parts.2);
      is = is.is;
    }

-- a table that is sound in the schema that has it last leaves it sound
pub sound_table : (schema : SchemaDef) (table : TableDef) → IsSound schema → table.columns ≡ [] → IsTable (with_table schema table) (length schema.tables) table → IsSound (with_table schema table)
sound_table schema table sound empty added = record {
  tables = λ n def e. at_number n def (slice_get_push schema.tables table n def e);
  listed = λ index there. index_stays (with_table schema table) schema grown index (sound.listed index there);
  complete = λ index is. from_column index is (column_there (with_table schema table) index is.column is.there);
  once = sound.once;
}
  where
    grown : Extends (with_table schema table) schema
    grown = extends_table schema table

    at_number : (n : ℕ) (def : TableDef) → (slice_get schema.tables n ≡ Some def) ⊎ ((n ≡ length schema.tables) × (table ≡ def)) → IsTable (with_table schema table) n def
    at_number n def (inl before) =
        let is = sound.tables n def before in
        subst (IsTable (with_table schema table) n) (ap (λ columns. record def { columns = columns }) (append-nil def.columns))
        (table_holds (with_table schema table) schema grown n def [] is (name_left schema table def.name n is.first)
        (λ c column e. inl (ap (λ columns. slice_get columns c) (sym (append-nil def.columns)) ∙ e)))
    at_number n def (inr last) = subst (IsTable (with_table schema table) n) last.1 (subst (λ m. IsTable (with_table schema table) m table) (sym last.0) added)

    from_column : (index : TableNo × ColumnNo) (is : IsIndexColumn (with_table schema table) index)
        → (home : TableDef) × (slice_get (schema.tables ++ table ∷ []) index.0.0 ≡ Some home) × (slice_get home.columns index.1.0 ≡ Some is.column) → Stands schema.indexes index
    from_column index is parts = elim (slice_get_push schema.tables table index.0.0 parts.0 parts.1) [
      | inl before ↦ sound.complete index (record { column = is.column; there = column_from schema index.0 index.1.0 parts.0 is.column before parts.2; is = is.is })
      | inr last ↦ absurd (none-some is.column (ap (λ columns. slice_get columns index.1.0) (sym (ap (λ (t : TableDef). t.columns) (sym last.1) ∙ empty)) ∙ parts.2))
    ]

module _ (schema : SchemaDef) (table : TableNo) (column : ColumnDef) (home : TableDef) (there : slice_get schema.tables table.0 ≡ Some home) (sound : IsSound schema) where
  abbrev new : SchemaDef
  new = with_column schema table column

  grown : Extends new schema
  grown = extends_column schema table column

  abbrev entry : TableNo × ColumnNo
  entry = (table, column_no (column_count schema table))

  count : column_count schema table ≡ length home.columns
  count = ap (λ o. option_map_or (λ def. length def.columns) o 0) there

  -- the table with the new column stands at its number
  changed : slice_get new.tables table.0 ≡ Some (table_with column home)
  changed = slice_get-changed_same table.0 (table_with column) schema.tables ∙ ap (option_map (table_with column)) there

  -- names lead to the same tables
  name_kept : (name : List ℕ) → table_named new name ≡ table_named schema name
  name_kept name = ap (option_map table_no) (position-changed (λ def. bytes_eq def.name name) table.0 (table_with column) schema.tables (λ def. refl))

  -- each table is sound where the new column is
  tables_sound : IsColumn new table (table_with column home) (length home.columns) column → (n : ℕ) (def : TableDef) → slice_get new.tables n ≡ Some def → IsTable new n def
  tables_sound added n def e = elim (one_or_not n table.0) [
    | inl same ↦ subst (IsTable new n) (same_Some _ _ (sym changed ∙ ap (slice_get new.tables) (sym same) ∙ e)) (here n same)
    | inr apart ↦ other n def (sym (slice_get-changed_other table.0 n (table_with column) schema.tables apart) ∙ e)
  ]
    where
      last : (n c : ℕ) (one : ColumnDef) → n ≡ table.0 → c ≡ length home.columns → column ≡ one → IsColumn new (table_no n) (table_with column home) c one
      last n c one same at is =
          subst (λ m. IsColumn new (table_no m) (table_with column home) c one) (sym same)
          (subst (λ k. IsColumn new table (table_with column home) k one) (sym at) (subst (IsColumn new table (table_with column home) (length home.columns)) is added))

      here : (n : ℕ) → n ≡ table.0 → IsTable new n (table_with column home)
      here n same =
          let is = sound.tables n home (ap (slice_get schema.tables) same ∙ there) in
          table_holds new schema grown n home (column ∷ []) is (name_kept home.name ∙ is.first)
          (λ c one e. elim (slice_get_push home.columns column c one e) [
            | inl before ↦ inl before
            | inr end ↦ inr (last n c one same end.0 end.1)
          ])

      other : (n : ℕ) (def : TableDef) → slice_get schema.tables n ≡ Some def → IsTable new n def
      other n def at =
          let is = sound.tables n def at in
          subst (IsTable new n) (ap (λ columns. record def { columns = columns }) (append-nil def.columns))
          (table_holds new schema grown n def [] is (name_kept def.name ∙ is.first)
          (λ c one e. inl (ap (λ columns. slice_get columns c) (sym (append-nil def.columns)) ∙ e)))

  -- the index columns, where the new column is one or not
  abbrev listed_by : Bool → List (TableNo × ColumnNo)
  listed_by b = schema.indexes ++ (if b then entry ∷ [] else [])

  entry_is : is_index column.role ≡ true → IsIndexColumn new entry
  entry_is is = record {
    column = column;
    there = column_from new table (column_count schema table) (table_with column home) column changed (ap (slice_get (home.columns ++ column ∷ [])) count ∙ slice_get_end home.columns column);
    is = is;
  }

  listed_sound : (b : Bool) → is_index column.role ≡ b → (index : TableNo × ColumnNo) → Stands (listed_by b) index → IsIndexColumn new index
  listed_sound true is index stands = elim (slice_get_push schema.indexes entry stands.0 index stands.1) [
    | inl before ↦ index_stays new schema grown index (sound.listed index (stands.0, before))
    | inr last ↦ subst (IsIndexColumn new) last.1 (entry_is is)
  ]
  listed_sound false is index stands =
      index_stays new schema grown index (sound.listed index (stands.0, ap (λ xs. slice_get xs stands.0) (sym (append-nil schema.indexes)) ∙ stands.1))

  -- an old index column stands among them
  stays_listed : (b : Bool) (index : TableNo × ColumnNo) → Stands schema.indexes index → Stands (listed_by b) index
  stays_listed b index stands = (stands.0, slice_get_left schema.indexes _ stands.0 index stands.1)

  entry_listed : (b : Bool) → b ≡ true → Stands (listed_by b) entry
  entry_listed true is = (length schema.indexes, slice_get_end schema.indexes entry)
  entry_listed false is = absurd (cc)

  complete_sound : (b : Bool) → is_index column.role ≡ b → (index : TableNo × ColumnNo) → IsIndexColumn new index → Stands (listed_by b) index
  complete_sound b role index is =
      let parts = column_there new index is.column is.there in
      elim (one_or_not index.0.0 table.0) [
        | inl same ↦ here parts.0 parts.1 parts.2 same
        | inr apart ↦ stays_listed b index (sound.complete index (record {
          column = is.column;
          there = column_from schema index.0 index.1.0 parts.0 is.column (sym (slice_get-changed_other table.0 index.0.0 (table_with column) schema.tables apart) ∙ parts.1) parts.2;
          is = is.is;
        }))
      ]
    where
      itself : index.0.0 ≡ table.0 → index.1.0 ≡ length home.columns → ◌≡◌ {A = TableNo × ColumnNo} entry index
      itself same at = λ i. (table_no (sym same i), column_no ((count ∙ sym at) i))

      here : (def : TableDef) → slice_get new.tables index.0.0 ≡ Some def → slice_get def.columns index.1.0 ≡ Some is.column → index.0.0 ≡ table.0 → Stands (listed_by b) index
      here def at one same =
          let is_home : table_with column home ≡ def = same_Some _ _ (sym changed ∙ ap (slice_get new.tables) (sym same) ∙ at) in
          elim (slice_get_push home.columns column index.1.0 is.column (ap (λ (t : TableDef). slice_get t.columns index.1.0) is_home ∙ one)) [
            | inl before ↦ stays_listed b index (sound.complete index (record {
              column = is.column;
              there = column_from schema index.0 index.1.0 home is.column (ap (slice_get schema.tables) same ∙ there) before;
              is = is.is;
            }))
            | inr last ↦ subst (Stands (listed_by b)) (itself same last.0) (entry_listed b (sym role ∙ ap (λ (c : ColumnDef). is_index c.role) last.1 ∙ is.is))
          ]

  -- the new column was no index before
  entry_new : (index : TableNo × ColumnNo) → Stands schema.indexes index → ◌≡◌ {A = TableNo × ColumnNo} entry index → ⊥
  entry_new index stands is =
      let old = sound.listed index stands in
      let parts = column_there schema index old.column old.there in
      let at : index.0.0 ≡ table.0 = sym (ap (λ (x : TableNo × ColumnNo). x.0.0) is) in
      let number : index.1.0 ≡ length home.columns = sym (ap (λ (x : TableNo × ColumnNo). x.1.0) is) ∙ count in
      let same : home ≡ parts.0 = same_Some _ _ (sym there ∙ ap (slice_get schema.tables) (sym at) ∙ parts.1) in
      slice_get_none home.columns old.column (ap (slice_get home.columns) (sym number) ∙ ap (λ (t : TableDef). slice_get t.columns index.1.0) same ∙ parts.2)

  once_sound : (b : Bool) (i j : ℕ) (index : TableNo × ColumnNo) → slice_get (listed_by b) i ≡ Some index → slice_get (listed_by b) j ≡ Some index → i ≡ j
  once_sound true i j index one other = elim (slice_get_push schema.indexes entry i index one) [
    | inl before ↦ elim (slice_get_push schema.indexes entry j index other) [
      | inl also ↦ sound.once i j index before also
      | inr last ↦ absurd (entry_new index (i, before) last.1)
    ]
    | inr last ↦ elim (slice_get_push schema.indexes entry j index other) [
      | inl before ↦ absurd (entry_new index (j, before) last.1)
      | inr also ↦ last.0 ∙ sym also.0
    ]
  ]
  once_sound false i j index one other =
      let whole = sym (append-nil schema.indexes) in
      sound.once i j index (ap (λ xs. slice_get xs i) whole ∙ one) (ap (λ xs. slice_get xs j) whole ∙ other)

  -- a column that is sound in the schema that has it last in its table leaves it sound
  pub sound_column : IsColumn new table (table_with column home) (length home.columns) column → IsSound new
  sound_column added = record {
    tables = tables_sound added;
    listed = listed_sound (is_index column.role) refl;
    complete = complete_sound (is_index column.role) refl;
    once = once_sound (is_index column.role);
  }
