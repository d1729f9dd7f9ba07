-- Tables of which the records of one are changed.
use Rattle.std.specs.Prelude.{◌≡◌, Some, List, [], ◌∷◌, slice_get, slice_set}
use Rattle.gr_base.specs.declared.numbers.RecordId.{RecordId}
use Rattle.gr_base.specs.declared.numbers.TableNo.{TableNo}
use Rattle.gr_db.specs.Changed.{Place}
use Rattle.gr_db.specs.Db.{without}
use Rattle.gr_expr.specs.Tables.{Records}
use Rattle.gr_root.specs.declared.make.Made.{Made}
use Rattle.gr_schema.specs.Schema.{SchemaDef}
use Rattle.gr_table.specs.Table.{TableOf}

-- the records of one table are changed, and the others stay
pub record IsChangedAt (old new : List TableOf) (table : TableNo) (change : Records → Records) : Type 0 where
  pub before : TableOf
  pub there : slice_get old table.0 ≡ Some before
  pub is : (let after : TableOf = record before { records = change before.records } in new ≡ slice_set old table.0 after)

-- the tables stand without one record, which alone was touched
pub record IsRemoved (schema : SchemaDef) (old : List TableOf) (table : TableNo) (id : RecordId) (made : Made) : Type 0 where
  pub schema_same : made.schema ≡ schema
  pub tables : IsChangedAt old made.tables table (without id.0)
  pub touched : (let place : Place = (table, id) in made.touched ≡ place ∷ [])

-- nothing changed, and no record was touched
pub record IsUnchanged (schema : SchemaDef) (tables : List TableOf) (made : Made) : Type 0 where
  pub schema_same : made.schema ≡ schema
  pub tables_same : made.tables ≡ tables
  pub touched : made.touched ≡ []
