-- Entries let a schema grow: each table and column stays, and what was valid for it stays valid.
use Rattle.std.proofs.Common.{ℕ, zero, suc, ◌≡◌, ◌≢◌, ◌⊎◌, inl, inr, Bool, true, false, cond, Option, Some, None, List, [], ◌∷◌, ◌++◌, fold, slice_get, refl, sym, ap, subst, ◌∙◌, append_assoc, arith}
use Rattle.std.proofs.lemmas.Bool.{cases_order}
use Rattle.std.proofs.lemmas.List.{append-nil}
use Rattle.std.proofs.lemmas.List.Sums.{fold-append}
use Rattle.std.proofs.lemmas.Option.{none-some}
use Rattle.std.specs.List.{AllByRecursion}
use Rattle.std.specs.Option.{option_and_then, option_map, option_map_or}
use Rattle.std.specs.Prelude.{MatchOption}
use Rattle.gr_base.specs.declared.numbers.ColumnNo.{ColumnNo}
use Rattle.gr_base.specs.declared.numbers.RecordId.{RecordId}
use Rattle.gr_base.specs.declared.numbers.TableNo.{TableNo}
use Rattle.gr_db.specs.Apply.{apply, column_made, column_wants, id_if, id_which, own_id, put, replay, with_blank_column, with_setting}
use Rattle.gr_db.specs.Db.{Db, changed_table, empty, kind_shape, role_shape, without}
use Rattle.gr_db.specs.Entry.{IsDelete, IsDeleteIf, IsHome, IsPut, IsSetting, IsValid, IsWhich}
use Rattle.gr_db.specs.Keys.{IsKeyFor}
use Rattle.gr_db.specs.Wants.{Setting, added, all_added, all_wanted, is_there, record_wants, token_wants, wanted}
use Rattle.gr_db.specs.declared.entry.Change.{Change}
use Rattle.gr_db.specs.declared.entry.Change.TheVariants.{CreateTable, CreateColumn, Put, Delete, DeleteIf, Merge}
use Rattle.gr_db.specs.declared.entry.Entry.{Entry}
use Rattle.gr_db.specs.declared.entry.Which.{Which}
use Rattle.gr_db.specs.declared.entry.Which.TheVariants.{Id, Key as ByKey}
use Rattle.gr_db.specs.declared.want.Want.{Want}
use Rattle.gr_expr.specs.declared.typed.Expr.{Expr}
use Rattle.gr_schema.specs.Paths.{key_type}
use Rattle.gr_schema.specs.Schema.{Extends, ExtendsTable, SchemaDef, changed_at, column_at, column_in, table_at, table_with, with_column, with_table}
use Rattle.gr_schema.specs.Wishes.{column_of, table_of}
use Rattle.gr_schema.specs.declared.definition.ColumnDef.{ColumnDef}
use Rattle.gr_schema.specs.declared.definition.Role.{Role}
use Rattle.gr_schema.specs.declared.definition.Role.TheVariants.{Scalar, Vector, Index}
use Rattle.gr_schema.specs.declared.definition.TableDef.{TableDef}
use Rattle.gr_values.specs.Fits.{Fits}
use Rattle.gr_values.specs.declared.data_type.DataType.{DataType}
use Rattle.gr_values.specs.declared.data_type.Kind.{Kind}
use Rattle.gr_values.specs.declared.data_type.Kind.TheVariants.{Plain, Reference}
use Rattle.gr_values.specs.declared.data_type.Shape.{Shape}
use Rattle.gr_values.specs.declared.value.Key.{Key}

-- Schemas that go on from one another

-- what stands in a list stands there with more after it
pub slice_get-left : {X : Type 0} (xs ys : List X) (n : ℕ) (x : X) → slice_get xs n ≡ Some x → slice_get (xs ++ ys) n ≡ Some x
slice_get-left [] ys n x e = absurd (none-some x e)
slice_get-left (y ∷ xs) ys zero x e = e
slice_get-left (y ∷ xs) ys (suc n) x e = slice_get-left xs ys n x e

slice_get-changed_same : {X : Type 0} (k : ℕ) (change : X → X) (xs : List X) → slice_get (changed_at k change xs) k ≡ option_map change (slice_get xs k)
slice_get-changed_same k change [] = refl
slice_get-changed_same zero change (x ∷ xs) = refl
slice_get-changed_same (suc k) change (x ∷ xs) = slice_get-changed_same k change xs

slice_get-changed_other : {X : Type 0} (k n : ℕ) (change : X → X) (xs : List X) → n ≢ k → slice_get (changed_at k change xs) n ≡ slice_get xs n
slice_get-changed_other k n change [] apart = refl
slice_get-changed_other zero zero change (x ∷ xs) apart = absurd (apart refl)
slice_get-changed_other zero (suc n) change (x ∷ xs) apart = refl
slice_get-changed_other (suc k) zero change (x ∷ xs) apart = refl
slice_get-changed_other (suc k) (suc n) change (x ∷ xs) apart = slice_get-changed_other k n change xs (λ e. apart (ap suc e))

one-or-not : (m n : ℕ) → (m ≡ n) ⊎ (m ≢ n)
one-or-not m n = elim (cases_order m n) [
  | inl same ↦ inl same
  | inr apart ↦ elim apart [
    | inl below ↦ inr (λ e. omega arith)
    | inr above ↦ inr (λ e. omega arith)
  ]
]

-- a table with more columns after its own
abbrev pub longer : TableDef → List ColumnDef → TableDef
longer table more = record table { columns = table.columns ++ more }

table-itself : (table : TableDef) → ExtendsTable table table
table-itself table = record { more = []; is = ap (λ columns. record table { columns = columns }) (sym (append-nil table.columns)) }

table-trans : (new middle old : TableDef) → ExtendsTable new middle → ExtendsTable middle old → ExtendsTable new old
table-trans new middle old above below = record {
  more = below.more ++ above.more;
  is = above.is ∙ ap (λ (table : TableDef). longer table above.more) below.is ∙ ap (λ (columns : List ColumnDef). record old { columns = columns }) (append_assoc old.columns below.more above.more);
}

pub extends-itself : (schema : SchemaDef) → Extends schema schema
extends-itself schema = record {
  tables = λ n table there. (table, there, table-itself table);
  indexes = record { more = []; is = sym (append-nil schema.indexes) };
}

pub extends-trans : (new middle old : SchemaDef) → Extends new middle → Extends middle old → Extends new old
extends-trans new middle old above below = record {
  tables = λ n table there.
      let one = below.tables n table there in
      let other = above.tables n one.0 one.1 in
      (other.0, other.1, table-trans other.0 one.0 table other.2 one.2);
  indexes = record {
    more = below.indexes.more ++ above.indexes.more;
    is = above.indexes.is ∙ ap (λ indexes. indexes ++ above.indexes.more) below.indexes.is ∙ append_assoc old.indexes below.indexes.more above.indexes.more;
  };
}

pub extends-table : (schema : SchemaDef) (table : TableDef) → Extends (with_table schema table) schema
extends-table schema table = record {
  tables = λ n old there. (old, slice_get-left schema.tables (table ∷ []) n old there, table-itself old);
  indexes = record { more = []; is = sym (append-nil schema.indexes) };
}

changed-table : (column : ColumnDef) (k n : ℕ) (tables : List TableDef) (old : TableDef) → slice_get tables n ≡ Some old → (n ≡ k) ⊎ (n ≢ k)
    → (grown : TableDef) × (slice_get (changed_at k (table_with column) tables) n ≡ Some grown) × ExtendsTable grown old
changed-table column k n tables old there (inl same) = (
  table_with column old,
  subst (λ m. slice_get (changed_at m (table_with column) tables) n ≡ Some (table_with column old)) same
      (slice_get-changed_same n (table_with column) tables ∙ ap (option_map (table_with column)) there),
  record { more = column ∷ []; is = refl },
)
changed-table column k n tables old there (inr apart) = (old, slice_get-changed_other k n (table_with column) tables apart ∙ there, table-itself old)

pub extends-column : (schema : SchemaDef) (table : TableNo) (column : ColumnDef) → Extends (with_column schema table column) schema
extends-column schema table column = record {
  tables = λ n old there. changed-table column table.0 n schema.tables old there (one-or-not n table.0);
  indexes = record { more = _; is = refl };
}

-- What changes do to a schema

wanted-schema : (db : Db) (want : Want) → (wanted db want).schema ≡ db.schema
wanted-schema db want = elim (is_there db want) as (λ b. (let after : Db = cond b db (added db want) in after.schema ≡ db.schema)) [
  | true ↦ refl
  | false ↦ refl
]

-- wants leave the schema as it was
pub all-wanted-schema : (db : Db) (wants : List Want) → (all_wanted db wants).schema ≡ db.schema
all-wanted-schema db [] = refl
all-wanted-schema db (want ∷ wants) = all-wanted-schema (wanted db want) wants ∙ wanted-schema db want

settings-schema : (table : TableNo) (id : RecordId) (db : Db) (settings : List Setting) → (fold (with_setting table id) db settings).schema ≡ db.schema
settings-schema table id db [] = refl
settings-schema table id db (setting ∷ settings) = settings-schema table id (with_setting table id db setting) settings

-- a put leaves the schema as it was
pub put-schema : (db : Db) (table : TableNo) (key : Option Key) (settings : List Setting) → (put db table key settings).schema ≡ db.schema
put-schema db table key settings =
    let records = record_wants db.schema table key settings in
    let found = all_wanted db records in
    let set = fold (with_setting table (own_id found table key)) found settings in
    all-wanted-schema set (token_wants db.schema table settings (all_added db records))
    ∙ settings-schema table (own_id found table key) found settings
    ∙ all-wanted-schema db records

-- a new column goes last in its table
pub made-schema : (db : Db) (table : TableNo) (column : ColumnDef) → (column_made db table column).schema ≡ with_column db.schema table column
made-schema db table column = all-wanted-schema (with_blank_column db table column) (column_wants db (with_blank_column db table column) table column)

-- a deletion leaves the schema as it was
pub delete-schema : (db : Db) (table : TableNo) (o : Option RecordId) → (option_map_or (λ id. changed_table table (without id.0) db) o db).schema ≡ db.schema
delete-schema db table None = refl
delete-schema db table (Some id) = refl

column-extends : (db : Db) (o : Option (TableNo × ColumnDef)) → Extends (option_map_or (λ made. column_made db made.0 made.1) o db).schema db.schema
column-extends db None = extends-itself db.schema
column-extends db (Some made) = subst (λ schema. Extends schema db.schema) (sym (made-schema db made.0 made.1)) (extends-column db.schema made.0 made.1)

-- a change lets the schema grow
pub apply-extends : (db : Db) (change : Change) → Extends (apply db change).schema db.schema
apply-extends db (CreateTable wish) = extends-table db.schema (table_of wish)
apply-extends db (CreateColumn wish) = column-extends db (column_of db.schema wish)
apply-extends db (Put table key settings) = subst (λ schema. Extends schema db.schema) (sym (put-schema db table key settings)) (extends-itself db.schema)
apply-extends db (Delete table by) = subst (λ schema. Extends schema db.schema) (sym (delete-schema db table (id_which db table by))) (extends-itself db.schema)
apply-extends db (DeleteIf table id condition) = subst (λ schema. Extends schema db.schema) (sym (delete-schema db table (id_if db table id condition))) (extends-itself db.schema)
apply-extends db (Merge table column from to) = extends-itself db.schema

entries-extend : (db : Db) (entries : List Entry) → Extends (fold (λ (db : Db) (entry : Entry). apply db entry.change) db entries).schema db.schema
entries-extend db [] = extends-itself db.schema
entries-extend db (entry ∷ entries) =
    extends-trans (fold (λ (db : Db) (entry : Entry). apply db entry.change) (apply db entry.change) entries).schema (apply db entry.change).schema db.schema
    (entries-extend (apply db entry.change) entries)
    (apply-extends db entry.change)

-- the schema of a longer journal goes on from that of the journal
pub extends : (journal more : List Entry) → Extends (replay (journal ++ more)).schema (replay journal).schema
extends journal more =
    subst (λ (db : Db). Extends db.schema (replay journal).schema)
    (sym (fold-append (λ (db : Db) (entry : Entry). apply db entry.change) empty journal more))
    (entries-extend (replay journal) more)

-- What stays valid

then-some : {X Y : Type 0} (f : X → Option Y) (o : Option X) (y : Y) → option_and_then f o ≡ Some y → (x : X) × (o ≡ Some x) × (f x ≡ Some y)
then-some f None y e = absurd (none-some y e)
then-some f (Some x) y e = (x, refl, e)

all-weaker : {X : Type 0} (P Q : X → Type 0) (xs : List X) → ((x : X) → P x → Q x) → AllByRecursion P xs → AllByRecursion Q xs
all-weaker P Q [] weaker all = tt
all-weaker P Q (x ∷ xs) weaker all = (weaker x all.0, all-weaker P Q xs weaker all.1)

key-for-longer : (home : TableDef) (later : List ColumnDef) (key : Option Key) → IsKeyFor home key → IsKeyFor (longer home later) key
key-for-longer home later None is = is
key-for-longer home later (Some key) is = is

which-longer : (home : TableDef) (later : List ColumnDef) (by : Which) → IsWhich home by → IsWhich (longer home later) by
which-longer home later (Id id) is = is
which-longer home later (ByKey key) is = is

module _ (new old : SchemaDef) (grown : Extends new old) where
  -- a table stays, maybe with more columns
  pub table-stays : (table : TableNo) (home : TableDef) → table_at old table ≡ Some home → (later : List ColumnDef) × (table_at new table ≡ Some (longer home later))
  table-stays table home there =
      let found = grown.tables table.0 home there in
      (found.2.more, found.1 ∙ ap Some found.2.is)

  -- a table's type of keys stays
  pub key-type-stays : (table : TableNo) (type : DataType) → key_type old table ≡ Some type → key_type new table ≡ Some type
  key-type-stays table type is =
      let home = then-some (λ (def : TableDef). def.key) (table_at old table) type is in
      ap (λ (o : Option TableDef). option_and_then (λ (def : TableDef). def.key) o) (table-stays table home.0 home.1).1 ∙ home.2

  -- a column stays
  pub column-stays : (table : TableNo) (column : ColumnNo) (def : ColumnDef) → column_at old table column ≡ Some def → column_at new table column ≡ Some def
  column-stays table column def is =
      let home = then-some (λ (home : TableDef). column_in home column) (table_at old table) def is in
      let there = table-stays table home.0 home.1 in
      ap (λ (o : Option TableDef). option_and_then (λ (home : TableDef). column_in home column) o) there.1 ∙ slice_get-left home.0.columns there.0 column.0 def home.2

  kind-stays : (list : Bool) (kind : Kind) (shape : Shape) → kind_shape old list kind ≡ Some shape → kind_shape new list kind ≡ Some shape
  kind-stays list (Plain type) shape is = is
  kind-stays list (Reference to) shape is = go (key_type old to) refl is
    where
      go : (o : Option DataType) → key_type old to ≡ o → option_map (λ key. let s : Shape = record { list = list; of = key; reference = true } in s) o ≡ Some shape → kind_shape new list (Reference to) ≡ Some shape
      go None typed is = absurd (none-some shape is)
      go (Some type) typed is = ap (option_map (λ key. let s : Shape = record { list = list; of = key; reference = true } in s)) (key-type-stays to type typed) ∙ is

  -- a data column keeps its shape
  pub shape-stays : (role : Role) (shape : Shape) → role_shape old role ≡ Some shape → role_shape new role ≡ Some shape
  shape-stays (Scalar kind) shape is = kind-stays false kind shape is
  shape-stays (Vector kind) shape is = kind-stays true kind shape is
  shape-stays (Index target sources position section) shape is = is

  setting-stays : (table : TableNo) (setting : Setting) → IsSetting old table setting → IsSetting new table setting
  setting-stays table setting fits = go (option_and_then (λ (column : ColumnDef). role_shape old column.role) (column_at old table setting.0)) refl fits
    where
      go : (o : Option Shape) → option_and_then (λ (column : ColumnDef). role_shape old column.role) (column_at old table setting.0) ≡ o → MatchOption o ⊥ (λ shape. Fits shape setting.1) → IsSetting new table setting
      go None is fits = absurd fits
      go (Some shape) is fits =
          let column = then-some (λ (column : ColumnDef). role_shape old column.role) (column_at old table setting.0) shape is in
          let same : option_and_then (λ (column : ColumnDef). role_shape new column.role) (column_at new table setting.0) ≡ Some shape =
          ap (λ (o : Option ColumnDef). option_and_then (λ (column : ColumnDef). role_shape new column.role) o) (column-stays table setting.0 column.0 column.1) ∙ shape-stays column.0.role shape column.2 in
          subst (λ (o : Option Shape). MatchOption o ⊥ (λ shape. Fits shape setting.1)) (sym same) fits

  home-stays : (table : TableNo) (home : TableDef) → IsHome old table home → (later : List ColumnDef) × IsHome new table (longer home later)
  home-stays table home is =
      let there = table-stays table home is.there in
      (there.0, record { there = there.1; plain = is.plain })

  put-stays : (table : TableNo) (key : Option Key) (settings : List Setting) → IsPut old table key settings → IsPut new table key settings
  put-stays table key settings is =
      let home = home-stays table is.home is.there in
      record {
        home = longer is.home home.0;
        there = home.1;
        keyed = key-for-longer is.home home.0 key is.keyed;
        settings_fit = all-weaker (IsSetting old table) (IsSetting new table) settings (setting-stays table) is.settings_fit;
        distinct = is.distinct;
      }

  delete-stays : (table : TableNo) (by : Which) → IsDelete old table by → IsDelete new table by
  delete-stays table by is =
      let home = home-stays table is.home is.there in
      record {
        home = longer is.home home.0;
        there = home.1;
        which = which-longer is.home home.0 by is.which;
      }

  delete-if-stays : (table : TableNo) (condition : Expr) → IsDeleteIf old table condition → IsDeleteIf new table condition
  delete-if-stays table condition is =
      let home = home-stays table is.home is.there in
      record {
        home = longer is.home home.0;
        there = home.1;
        fits = λ db grows. is.fits db (extends-trans db.schema new old grows grown);
      }

  -- a change that was valid for a schema is valid for each that goes on from it
  pub still-valid : (change : Change) → IsValid old change → IsValid new change
  still-valid (CreateTable wish) valid = tt
  still-valid (CreateColumn wish) valid = tt
  still-valid (Put table key settings) valid = put-stays table key settings valid
  still-valid (Delete table by) valid = delete-stays table by valid
  still-valid (DeleteIf table id condition) valid = delete-if-stays table condition valid
  still-valid (Merge table column from to) valid = absurd valid

-- a change that was valid after a journal is valid after each longer one
pub IsValid-grown : (journal more : List Entry) (change : Change) → IsValid (replay journal).schema change → IsValid (replay (journal ++ more)).schema change
IsValid-grown journal more change valid = still-valid (replay (journal ++ more)).schema (replay journal).schema (extends journal more) change valid
