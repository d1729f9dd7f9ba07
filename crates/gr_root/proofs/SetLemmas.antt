-- Cells that are set: their shapes, and what the tables are afterwards.
use Rattle.std.proofs.Common.{◌≡◌, ℕ, ◌+◌, ◌<◌, ◌≤◌, zero, suc, Bool, true, false, Option, Some, None, is_some, List, [], ◌∷◌, ◌++◌, fold, get_or, length, map, slice_get, slice_set, take, refl, ap, sym, ◌∙◌, arith, subst}
use Rattle.std.proofs.lemmas.List.{length-map}
use Rattle.std.proofs.lemmas.List.Sums.{fold_more}
use Rattle.std.proofs.lemmas.Option.{slice_get-map, slice_get_within}
use Rattle.std.specs.List.{AllByRecursion}
use Rattle.std.specs.Option.{option_and_then, option_flatten, option_map, option_map_or}
use Rattle.std.specs.Prelude.{MatchOption}
use Rattle.gr_base.specs.declared.numbers.ColumnNo.{ColumnNo}
use Rattle.gr_base.specs.declared.numbers.RecordId.{RecordId}
use Rattle.gr_base.specs.declared.numbers.TableNo.{TableNo}
use Rattle.gr_db.specs.Apply.{id_of_key, kept, with_setting}
use Rattle.gr_db.specs.Db.{Db, changed_in, role_shape, shapes_at, shapes_of, with_cell}
use Rattle.gr_db.specs.Entry.{IsSetting}
use Rattle.gr_db.specs.Wants.{Setting, column_target}
use Rattle.gr_expr.specs.Tables.{Record, Records, record_at, record_in, records_of}
use Rattle.gr_root.specs.Inside.Change.{IsChangedAt}
use Rattle.gr_root.specs.Inside.Put.{IsSet, IsSetAll}
use Rattle.gr_root.specs.Inside.Sound.{AreFormed, AreWithin, records_in}
use Rattle.gr_root.specs.Inside.Walk.{db_of}
use Rattle.gr_root.specs.Inside.Working.{IsTaken}
use Rattle.gr_root.proofs.ChangeLemmas.{changed-db, changed-formed, changed-within, length-changed_at}
use Rattle.gr_root.proofs.TablesLemmas.{IsFormed, formed-at, records-at}
use Rattle.gr_schema.specs.Schema.{SchemaDef, changed_at, column_at, column_in, table_at}
use Rattle.gr_schema.specs.declared.definition.ColumnDef.{ColumnDef}
use Rattle.gr_schema.specs.declared.definition.TableDef.{TableDef}
use Rattle.gr_values.specs.Fits.{IsCellOf}
use Rattle.gr_table.specs.Table.{TableOf}
use Rattle.gr_values.specs.Fits.{Fits}
use Rattle.gr_values.specs.declared.data_type.Shape.{Shape}
use Rattle.gr_values.specs.declared.value.Cell.{Cell}
use Rattle.gr_values.specs.declared.value.Given.{Given}
use Rattle.gr_values.specs.declared.value.Key.{Key}

all-any : (ids : List RecordId) → AllByRecursion (λ (id : RecordId). Unit {0}) ids
all-any [] = tt
all-any (id ∷ ids) = (tt, all-any ids)

-- a value that fits is kept as a cell that does
cell-fits : (db : Db) (to : Option TableNo) (shape : Shape) (given : Given) → Fits shape given → IsCellOf shape (kept db to given)
cell-fits db to shape (Given.Bool truth) fits = fits
cell-fits db to shape (Given.Int number) fits = fits
cell-fits db to shape (Given.Text text) fits = fits
cell-fits db to shape (Given.Ref None) fits = fits
cell-fits db to shape (Given.Ref (Some key)) fits = fits.0
cell-fits db to shape (Given.RefList keys) fits =
    let long : length (map (id_of_key db to) keys) ≡ length keys = length-map keys (id_of_key db to) in
    let few = fits.1.few in
    (fits.0, record { few = rw long few; each = all-any (map (id_of_key db to) keys) })
cell-fits db to shape (Given.IntList numbers) fits = fits
cell-fits db to shape (Given.TextList texts) fits = fits

flat : {X Y : Type 0} (f : X → Option Y) (o : Option X) → option_flatten (option_map f o) ≡ option_and_then f o
flat f None = refl
flat f (Some x) = refl

shape-by : (schema : SchemaDef) (column : ColumnNo) (o : Option TableDef)
    → option_flatten (slice_get (option_map_or (shapes_of schema) o []) column.0) ≡ option_and_then (λ (def : ColumnDef). role_shape schema def.role) (option_and_then (λ home. column_in home column) o)
shape-by schema column None = refl
shape-by schema column (Some home) =
    ap option_flatten (slice_get-map (λ (def : ColumnDef). role_shape schema def.role) home.columns column.0) ∙ flat (λ (def : ColumnDef). role_shape schema def.role) (slice_get home.columns column.0)

shape-is : (schema : SchemaDef) (table : TableNo) (column : ColumnNo) → option_flatten (slice_get (shapes_at schema table) column.0) ≡ option_and_then (λ (def : ColumnDef). role_shape schema def.role) (column_at schema table column)
shape-is schema table column = shape-by schema column (table_at schema table)

fits-by : (db : Db) (to : Option TableNo) (given : Given) (o : Option Shape) → MatchOption o ⊥ (λ shape. Fits shape given) → MatchOption o ⊥ (λ shape. IsCellOf shape (kept db to given))
fits-by db to given None fits = fits
fits-by db to given (Some shape) fits = cell-fits db to shape given fits

-- a cell that is set has its column's shape
pub set-fits : (db : Db) (to : Option TableNo) (schema : SchemaDef) (table : TableNo) (setting : Setting) (shapes : List (Option Shape)) (cell : Cell) → shapes ≡ shapes_at schema table → cell ≡ kept db to setting.1 → IsSetting schema table setting
    → MatchOption (option_flatten (slice_get shapes setting.0.0)) ⊥ (λ shape. IsCellOf shape cell)
set-fits db to schema table setting shapes cell same is fits =
    let shape : option_flatten (slice_get shapes setting.0.0) ≡ option_and_then (λ (def : ColumnDef). role_shape schema def.role) (column_at schema table setting.0) =
    ap (λ (ss : List (Option Shape)). option_flatten (slice_get ss setting.0.0)) same ∙ shape-is schema table setting.0 in
    let kept_fits = fits-by db to setting.1 (option_and_then (λ (def : ColumnDef). role_shape schema def.role) (column_at schema table setting.0)) fits in
    subst (λ (o : Option Shape). MatchOption o ⊥ (λ s. IsCellOf s cell)) (sym shape)
    (subst (λ (k : Cell). MatchOption (option_and_then (λ (def : ColumnDef). role_shape schema def.role) (column_at schema table setting.0)) ⊥ (λ s. IsCellOf s k)) (sym is) kept_fits)

-- A record that is not there

none-at : (change : Record → Record) (n : ℕ) (records : Records) → is_some (option_flatten (slice_get records n)) ≡ false → changed_at n (option_map change) records ≡ records
none-at change n [] none = refl
none-at change zero (None ∷ records) none = refl
none-at change zero (Some found ∷ records) none = absurd cc
none-at change (suc n) (one ∷ records) none = ap (λ rs. one ∷ rs) (none-at change n records none)

none-in : (change : Record → Record) (id : ℕ) (records : Records) → is_some (record_in records id) ≡ false → changed_in id change records ≡ records
none-in change zero records none = refl
none-in change (suc n) records none = none-at change n records none

same-at : (change : Records → Records) (n : ℕ) (tables : List Records) → change (option_map_or (λ records. records) (slice_get tables n) []) ≡ option_map_or (λ records. records) (slice_get tables n) [] → changed_at n change tables ≡ tables
same-at change n [] same = refl
same-at change zero (records ∷ tables) same = ap (λ rs. rs ∷ tables) same
same-at change (suc n) (records ∷ tables) same = ap (λ rs. records ∷ rs) (same-at change n tables same)

-- where the record is not there, no cell is set
pub set-nothing : (schema : SchemaDef) (old : List TableOf) (table : TableNo) (id : RecordId) (setting : Setting) → is_some (record_at (records_in old) table id) ≡ false → AreFormed schema old → IsSet schema old old table id setting
set-nothing schema old table id setting none formed =
    let cell = kept (db_of schema old) (column_target schema table setting.0) setting.1 in
    let same : changed_at table.0 (changed_in id.0 (with_cell setting.0 cell)) (records_in old) ≡ records_in old =
    same-at (changed_in id.0 (with_cell setting.0 cell)) table.0 (records_in old) (none-in (with_cell setting.0 cell) id.0 (records_of (records_in old) table) none) in
    record {
      is = ap (λ (rs : List Records). let db : Db = record { schema = schema; tables = rs } in db) (sym same);
      formed = formed;
      within = λ limit within. within;
    }

length-changed_in : (change : Record → Record) (id : ℕ) (records : Records) → length (changed_in id change records) ≡ length records
length-changed_in change zero records = refl
length-changed_in change (suc n) records = length-changed_at (option_map change) n records

-- a cell of a record that is there was set
pub set-one : (schema : SchemaDef) (old middle new : List TableOf) (table : TableNo) (id : RecordId) (setting : Setting) (found after : TableOf) (cell : Cell)
    → IsTaken old middle table.0 found → new ≡ slice_set middle table.0 after → after ≡ record found { records = changed_in id.0 (with_cell setting.0 cell) found.records }
    → cell ≡ kept (db_of schema old) (column_target schema table setting.0) setting.1 → AreFormed schema old → IsSet schema old new table id setting
set-one schema old middle new table id setting found after cell taken put set is formed =
    let change = changed_in id.0 (with_cell setting.0 (kept (db_of schema old) (column_target schema table setting.0) setting.1)) in
    let changed : after ≡ record found { records = change found.records } = set ∙ ap (λ (k : Cell). let t : TableOf = record found { records = changed_in id.0 (with_cell setting.0 k) found.records } in t) is in
    let at : IsChangedAt old new table change = record {
      before = found;
      there = taken.was;
      is = put ∙ taken.others after ∙ ap (slice_set old table.0) changed;
    } in
    record {
      is = changed-db schema old new table change at;
      formed = changed-formed schema old new table change at formed;
      within = λ limit within. changed-within limit old new table change (length-changed_in (with_cell setting.0 (kept (db_of schema old) (column_target schema table setting.0) setting.1)) id.0) at within;
    }

shapes-by : (schema : SchemaDef) (old : List TableOf) (table : TableNo) (o : Option TableDef) → table_at schema table ≡ o → is_some o ≡ true → AreFormed schema old → (home : TableDef) × IsFormed schema old table home
shapes-by schema old table None is there formed = absurd cc
shapes-by schema old table (Some home) is there formed = (home, formed-at schema old table home formed is)

-- the table that is there, with its form
pub shapes-there : (schema : SchemaDef) (old : List TableOf) (table : TableNo) → is_some (table_at schema table) ≡ true → AreFormed schema old → (home : TableDef) × IsFormed schema old table home
shapes-there schema old table there formed = shapes-by schema old table (table_at schema table) refl there formed

-- its place
pub place-there : (schema : SchemaDef) (old : List TableOf) (table : TableNo) → is_some (table_at schema table) ≡ true → AreFormed schema old → table.0 < length old
place-there schema old table there formed =
    let at = shapes-there schema old table there formed in
    slice_get_within old table.0 at.1.table at.1.there

-- a record that is there is in its table
pub alive-in : (old : List TableOf) (table : TableNo) (id : RecordId) (found : TableOf) → slice_get old table.0 ≡ Some found → is_some (record_at (records_in old) table id) ≡ true → is_some (record_in found.records id.0) ≡ true
alive-in old table id found there alive = ap (λ (rs : Records). is_some (record_in rs id.0)) (sym (records-at old table found there)) ∙ alive

-- the shapes of a table that was taken
pub shapes-taken : (schema : SchemaDef) (old : List TableOf) (table : TableNo) (found : TableOf) → slice_get old table.0 ≡ Some found → is_some (table_at schema table) ≡ true → AreFormed schema old → found.shapes ≡ shapes_at schema table
shapes-taken schema old table found taken there formed =
    let at = shapes-there schema old table there formed in
    let both : Some found ≡ Some at.1.table = sym taken ∙ at.1.there in
    let same : found ≡ at.1.table = cc both in
    ap (λ (t : TableOf). t.shapes) same ∙ at.1.shapes

-- one setting further
pub set-more : (schema : SchemaDef) (old middle new : List TableOf) (table : TableNo) (id : RecordId) (settings : List Setting) (i : ℕ) (d : Setting) → i < length settings
    → IsSetAll schema old middle table id (take i settings) → IsSet schema middle new table id (get_or settings i d) → IsSetAll schema old new table id (take (i + 1) settings)
set-more schema old middle new table id settings i d within before one = record {
  is = one.is ∙ ap (λ (db : Db). with_setting table id db (get_or settings i d)) before.is ∙ sym (fold_more (with_setting table id) (db_of schema old) settings i d within);
  formed = one.formed;
  within = λ limit few. one.within limit (before.within limit few);
}
