-- What a state keeps of its fields.
use Rattle.std.specs.Prelude.{ℕ, ◌≡◌, ◌≤◌, ◌^◌, Option, Some, None, List, [], ◌∷◌, length, map, slice_get, take}
use Rattle.std.specs.List.{AllByRecursion}
use Rattle.gr_base.specs.Limits.{IsInRange}
use Rattle.gr_base.specs.declared.numbers.RecordId.{RecordId}
use Rattle.gr_base.specs.declared.numbers.TableNo.{TableNo}
use Rattle.gr_db.specs.Accepted.{IsAccepted}
use Rattle.gr_db.specs.Apply.{counted, replay}
use Rattle.gr_db.specs.Changed.{Place, touched}
use Rattle.gr_db.specs.Db.{Db, shapes_of}
use Rattle.gr_db.specs.declared.entry.Entry.{Entry}
use Rattle.gr_expr.specs.Tables.{Record, Records}
use Rattle.gr_root.specs.Root.{merges_in}
use Rattle.gr_root.specs.declared.root.Root.TheInside.{Inside}
use Rattle.gr_schema.specs.Schema.{SchemaDef}
use Rattle.gr_schema.specs.declared.definition.TableDef.{TableDef}
use Rattle.gr_table.specs.Sound.{IsCellIn}
use Rattle.gr_table.specs.Table.{IsKeyIn, TableOf}
use Rattle.gr_values.specs.declared.data_type.DataType.{DataType}
use Rattle.gr_values.specs.declared.data_type.Shape.{Shape}
use Rattle.gr_values.specs.declared.value.Cell.{Cell}

-- the type of a table's keys, and the shapes of its columns
abbrev pub Form : Type 0
Form = Option DataType × List (Option Shape)

-- those of a table of records
abbrev pub form_of : TableOf → Form
form_of table = (table.key, table.shapes)

-- those of a table's definition
abbrev pub form_in : SchemaDef → TableDef → Form
form_in schema def = (def.key, shapes_of schema def)

-- the tables have the forms that the schema gives them
abbrev pub AreFormed : SchemaDef → List TableOf → Type 0
AreFormed schema tables = map form_of tables ≡ map (form_in schema) schema.tables

-- the records of tables
abbrev pub records_in : List TableOf → List Records
records_in tables = map (λ table. table.records) tables

-- no table has more ids given than the limit
abbrev pub AreWithin : ℕ → List TableOf → Type 0
AreWithin limit tables = AllByRecursion (λ table. length table.records ≤ limit) tables

-- a cell for each column: one of its shape, or in an index none
abbrev pub AreCells : List (Option Shape) → List (Option Cell) → Type 0
AreCells [] [] = Unit {0}
AreCells [] (cell ∷ cells) = ⊥
AreCells (shape ∷ shapes) [] = ⊥
AreCells (shape ∷ shapes) (cell ∷ cells) = IsCellIn shape cell × AreCells shapes cells

-- a record has a key of the form's type, where that has one, and the form's cells
pub record IsOfForm (form : Form) (found : Record) : Type 0 where
  pub keyed : IsKeyIn form.0 found.key
  pub cells : AreCells form.1 found.cells

-- a record that is there is of the form
abbrev pub IsGood : Form → Option Record → Type 0
IsGood form None = Unit {0}
IsGood form (Some found) = IsOfForm form found

-- each record of a table is of the form
abbrev pub AreGood : Form → Records → Type 0
AreGood form records = AllByRecursion (IsGood form) records

-- there are as many tables as forms, and the records of each are of its form
abbrev pub AreGoodIn : List Form → List Records → Type 0
AreGoodIn [] [] = Unit {0}
AreGoodIn [] (records ∷ tables) = ⊥
AreGoodIn (form ∷ forms) [] = ⊥
AreGoodIn (form ∷ forms) (records ∷ tables) = AreGood form records × AreGoodIn forms tables

-- the forms of a schema's tables
abbrev pub forms_in : SchemaDef → List Form
forms_in schema = map (form_in schema) schema.tables

-- each record of a database is of its table's form
abbrev pub IsGoodDb : Db → Type 0
IsGoodDb db = AreGoodIn (forms_in db.schema) db.tables

-- each place of a journal has the records that its entry touches
pub record AreTouched (journal : List Entry) (places : List (List Place)) : Type 0 where
  pub long : length places ≡ length journal
  pub each : (place : ℕ) (entry : Entry) → slice_get journal place ≡ Some entry → slice_get places place ≡ Some (touched (replay (take place journal)) entry.change)

-- the journal was accepted within its limit, and schema, tables and touched records are those that it made
pub record IsSound (root : Inside) : Type 0 where
  pub limits : IsInRange root.limits
  pub accepted : IsAccepted root.limits root.journal
  pub within : counted root.journal ≤ root.limits.journal
  pub merges : root.merges ≡ merges_in root.journal
  pub few_merges : root.merges ≤ 2 ^ 62
  pub schema : root.schema ≡ (replay root.journal).schema
  pub tables : records_in root.tables ≡ (replay root.journal).tables
  pub formed : AreFormed root.schema root.tables
  pub given : AreWithin root.limits.records root.tables
  pub good : AreGoodIn (forms_in root.schema) (records_in root.tables)
  pub touched : AreTouched root.journal root.touched
