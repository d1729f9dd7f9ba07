-- Which entries are valid for a schema.
use Rattle.std.specs.Prelude.{ℕ, ◌≡◌, false, Option, Some, None, List, slice_get, IfSome, IsUtf8, MatchOption}
use Rattle.std.specs.List.{AllByRecursion}
use Rattle.std.specs.Option.{option_and_then}
use Rattle.gr_base.specs.declared.numbers.RecordId.{RecordId}
use Rattle.gr_base.specs.declared.numbers.TableNo.{TableNo}
use Rattle.gr_db.specs.Condition.{IsConditionFor}
use Rattle.gr_db.specs.Db.{role_shape}
use Rattle.gr_db.specs.Keys.{IsKeyFor}
use Rattle.gr_db.specs.Wants.{Setting, text_in}
use Rattle.gr_db.specs.declared.entry.Change.{Change}
use Rattle.gr_db.specs.declared.entry.Change.TheVariants.{CreateTable, CreateColumn, Put, Delete, DeleteIf, Merge}
use Rattle.gr_db.specs.declared.entry.Which.{Which}
use Rattle.gr_db.specs.declared.entry.Which.TheVariants.{Id, Key as ByKey}
use Rattle.gr_db.specs.declared.want.Added.{Added}
use Rattle.gr_db.specs.declared.want.Want.{Want}
use Rattle.gr_expr.specs.Tables.{Records, record_at}
use Rattle.gr_expr.specs.declared.typed.Expr.{Expr}
use Rattle.gr_schema.specs.Schema.{SchemaDef, column_at, is_lexicon, table_at}
use Rattle.gr_schema.specs.declared.definition.Role.{Role}
use Rattle.gr_schema.specs.declared.definition.Role.TheVariants.{Scalar, Vector, Index}
use Rattle.gr_schema.specs.declared.definition.TableDef.{TableDef}
use Rattle.gr_values.specs.Fits.{Fits}
use Rattle.gr_values.specs.declared.path.Field.{Field}
use Rattle.gr_values.specs.declared.value.Given.{Given}
use Rattle.gr_values.specs.declared.value.Key.{Key}

-- a table that is there, and no lexicon
pub record IsHome (schema : SchemaDef) (table : TableNo) (home : TableDef) : Type 0 where
  pub there : table_at schema table ≡ Some home
  pub plain : is_lexicon home ≡ false

-- a setting of a data column of the table, with a value of its shape
abbrev pub IsSetting : SchemaDef → TableNo → Setting → Type 0
IsSetting schema table setting =
    MatchOption (option_and_then (λ column. role_shape schema column.role) (column_at schema table setting.0)) ⊥ (λ shape. Fits shape setting.1)

-- no column is set twice
abbrev pub AreDistinct : List Setting → Type 0
AreDistinct settings = (i j : ℕ) (one other : Setting) → slice_get settings i ≡ Some one → slice_get settings j ≡ Some other → one.0.0 ≡ other.0.0 → i ≡ j

-- a put fits where its table is there and no lexicon, its key is one of the table, and each value has its column's shape
pub record IsPut (schema : SchemaDef) (table : TableNo) (key : Option Key) (settings : List Setting) : Type 0 where
  pub home : TableDef
  pub there : IsHome schema table home
  pub keyed : IsKeyFor home key
  pub settings_fit : AllByRecursion (IsSetting schema table) settings
  pub distinct : AreDistinct settings

-- a deletion by key is in a keyed table
abbrev pub IsWhich : TableDef → Which → Type 0
IsWhich home (Id id) = Unit {0}
IsWhich home (ByKey key) = IsKeyFor home (Some key)

-- a deletion fits where its table is there and no lexicon
pub record IsDelete (schema : SchemaDef) (table : TableNo) (by : Which) : Type 0 where
  pub home : TableDef
  pub there : IsHome schema table home
  pub which : IsWhich home by

-- a deletion by a condition fits where its table is there and no lexicon, and the condition fits the schema and those that go on from it
pub record IsDeleteIf (schema : SchemaDef) (table : TableNo) (condition : Expr) : Type 0 where
  pub home : TableDef
  pub there : IsHome schema table home
  pub fits : IsConditionFor schema condition

-- whether a change fits a schema; one that creates always does, and a merge is no change that a session asks for
abbrev pub IsValid : SchemaDef → Change → Type 0
IsValid schema (CreateTable wish) = Unit {0}
IsValid schema (CreateColumn wish) = Unit {0}
IsValid schema (Put table key settings) = IsPut schema table key settings
IsValid schema (Delete table by) = IsDelete schema table by
IsValid schema (DeleteIf table id condition) = IsDeleteIf schema table condition
IsValid schema (Merge table column from to) = ⊥

-- Texts that can be cut into tokens

-- a key that is a text is UTF-8
abbrev pub IsReadable : Key → Type 0
IsReadable (Key.Number number) = Unit {0}
IsReadable (Key.Text text) = IsUtf8 text

-- the key of a wanted record is readable
abbrev pub IsReadableWant : Want → Type 0
IsReadableWant want = IfSome want.key IsReadable

-- the key of an added record is readable
abbrev pub IsReadableNew : Added → Type 0
IsReadableNew new = IsReadableWant new.want

-- a value that is one text is UTF-8
abbrev pub IsReadableGiven : Given → Type 0
IsReadableGiven (Given.Bool truth) = Unit {0}
IsReadableGiven (Given.Int number) = Unit {0}
IsReadableGiven (Given.Text text) = IsUtf8 text
IsReadableGiven (Given.Ref key) = Unit {0}
IsReadableGiven (Given.RefList keys) = Unit {0}
IsReadableGiven (Given.IntList numbers) = Unit {0}
IsReadableGiven (Given.TextList texts) = Unit {0}

-- the value of a setting is readable
abbrev pub IsReadableSetting : Setting → Type 0
IsReadableSetting setting = IsReadableGiven setting.1

-- the texts of the records of a table are UTF-8
abbrev pub AreReadable : List Records → TableNo → Type 0
AreReadable tables table = (id : RecordId) (field : Field) (text : List ℕ) → option_and_then (λ found. text_in found field) (record_at tables table id) ≡ Some text → IsUtf8 text

-- where a column is an index, the texts of its target are UTF-8
abbrev pub IsReadableTarget : List Records → Role → Type 0
IsReadableTarget tables (Scalar kind) = Unit {0}
IsReadableTarget tables (Vector kind) = Unit {0}
IsReadableTarget tables (Index target sources position section) = AreReadable tables target
