-- What making a table or a column comes to.
use Rattle.std.specs.Prelude.{◌≡◌, ⊤, Option, Some, None, Result, Ok, Err, IsUtf8, List, [], ◌∷◌, ◌++◌, map, slice_get, slice_set}
use Rattle.std.specs.Option.{option_map}
use Rattle.gr_base.specs.declared.failure.Failure.{Failure}
use Rattle.gr_base.specs.declared.failure.Failure.TheVariants.{Refused, NoMemory}
use Rattle.gr_base.specs.declared.fault.Fault.{Fault}
use Rattle.gr_base.specs.declared.numbers.Limits.{Limits}
use Rattle.gr_base.specs.declared.numbers.TableNo.{TableNo}
use Rattle.gr_db.specs.Apply.{column_made, column_wants, index_fault, with_blank_column}
use Rattle.gr_db.specs.Changed.{Place, place_of}
use Rattle.gr_db.specs.Db.{Db, with_column_of}
use Rattle.gr_db.specs.Wants.{all_added}
use Rattle.gr_root.specs.Inside.Sound.{AreFormed, AreWithin}
use Rattle.gr_root.specs.Inside.Walk.{db_of}
use Rattle.gr_root.specs.declared.make.Made.{Made}
use Rattle.gr_schema.specs.Schema.{SchemaDef, with_table}
use Rattle.gr_schema.specs.declared.definition.ColumnDef.{ColumnDef}
use Rattle.gr_schema.specs.declared.definition.TableDef.{TableDef}
use Rattle.gr_table.specs.Table.{TableOf, no_records}
use Rattle.gr_values.specs.Defaults.{default_of}
use Rattle.gr_values.specs.declared.data_type.Shape.{Shape}

-- a table was made: it goes last, without records, and no record is touched
pub record IsTableMade (old : SchemaDef) (before : List TableOf) (def : TableDef) (made : Made) : Type 0 where
  pub schema : made.schema ≡ with_table old def
  pub tables : made.tables ≡ before ++ no_records def.key ∷ []
  pub touched : made.touched ≡ []

-- a table with one more column, which holds the default of the shape in each record
abbrev pub table_with_blank : Option Shape → TableOf → TableOf
table_with_blank shape table = record table {
  shapes = table.shapes ++ shape ∷ [];
  records = with_column_of (option_map default_of shape) table.records;
}

-- one table has one more column, and the others stay
pub record HasBlank (old new : List TableOf) (table : TableNo) (shape : Option Shape) : Type 0 where
  pub before : TableOf
  pub there : slice_get old table.0 ≡ Some before
  pub is : new ≡ slice_set old table.0 (table_with_blank shape before)

-- the records that a new column adds
abbrev pub column_added : Db → TableNo → ColumnDef → List Place
column_added db table def = let grown = with_blank_column db table def in map place_of (all_added grown (column_wants db grown table def))

-- a column was made, and an index has the tokens of its target's records
pub record IsColumnMade (limits : Limits) (schema : SchemaDef) (tables : List TableOf) (table : TableNo) (def : ColumnDef) (made : Made) : Type 0 where
  pub faultless : index_fault limits (db_of schema tables) table def ≡ None
  pub is : db_of made.schema made.tables ≡ column_made (db_of schema tables) table def
  pub touched : made.touched ≡ column_added (db_of schema tables) table def
  pub formed : AreFormed made.schema made.tables
  pub within : AreWithin limits.records made.tables

-- a new index is refused: the lexicon has no room for its tokens
pub record IsColumnUnmade (limits : Limits) (schema : SchemaDef) (tables : List TableOf) (table : TableNo) (def : ColumnDef) (fault : Fault) : Type 0 where
  pub first : index_fault limits (db_of schema tables) table def ≡ Some fault
  pub text : IsUtf8 fault.name

-- a column is made, or refused; for want of memory nothing is said
abbrev pub MakesColumn : Limits → SchemaDef → List TableOf → TableNo → ColumnDef → Result Made (Failure Fault) → Type 0
MakesColumn limits schema tables table def (Ok made) = IsColumnMade limits schema tables table def made
MakesColumn limits schema tables table def (Err (Refused fault)) = IsColumnUnmade limits schema tables table def fault
MakesColumn limits schema tables table def (Err NoMemory) = ⊤
