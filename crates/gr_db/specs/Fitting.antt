-- Which databases fit their schemas.
use Rattle.std.specs.Prelude.{◌≡◌, Some, Option, List, length, slice_get, MatchOption}
use Rattle.std.specs.Option.{option_flatten}
use Rattle.gr_base.specs.declared.numbers.ColumnNo.{ColumnNo}
use Rattle.gr_base.specs.declared.numbers.RecordId.{RecordId}
use Rattle.gr_base.specs.declared.numbers.TableNo.{TableNo}
use Rattle.gr_db.specs.Db.{Db, role_shape}
use Rattle.gr_db.specs.Keys.{IsKeyFor}
use Rattle.gr_expr.specs.Tables.{Record, record_at}
use Rattle.gr_schema.specs.Schema.{SchemaDef, column_in, table_at}
use Rattle.gr_schema.specs.Sound.{IsSound}
use Rattle.gr_schema.specs.declared.definition.ColumnDef.{ColumnDef}
use Rattle.gr_schema.specs.declared.definition.TableDef.{TableDef}
use Rattle.gr_values.specs.Fits.{IsCellOf}
use Rattle.gr_values.specs.declared.data_type.Shape.{Shape}

-- a record has a key exactly where its table is keyed, and then of its type, and in each data column a cell of its shape
pub record FitsTable (schema : SchemaDef) (home : TableDef) (found : Record) : Type 0 where
  pub keyed : IsKeyFor home found.key
  pub cells : (column : ColumnNo) (def : ColumnDef) (shape : Shape) → column_in home column ≡ Some def → role_shape schema def.role ≡ Some shape
      → MatchOption (option_flatten (slice_get found.cells column.0)) ⊥ (IsCellOf shape)

-- the schema is sound, each of its tables is there, and their records fit them
pub record IsFitting (db : Db) : Type 0 where
  pub sound : IsSound db.schema
  pub tables : length db.tables ≡ length db.schema.tables
  pub records : (table : TableNo) (home : TableDef) (id : RecordId) (found : Record) → table_at db.schema table ≡ Some home → record_at db.tables table id ≡ Some found
      → FitsTable db.schema home found
