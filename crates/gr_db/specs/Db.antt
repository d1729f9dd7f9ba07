-- What a database is: its schema, and the records of each of its tables.
use Rattle.std.specs.Prelude.{ℕ, zero, suc, Bool, false, true, Option, Some, None, List, [], ◌∷◌, ◌++◌, map}
use Rattle.std.specs.Option.{option_map, option_map_or}
use Rattle.gr_base.specs.declared.numbers.ColumnNo.{ColumnNo}
use Rattle.gr_base.specs.declared.numbers.TableNo.{TableNo}
use Rattle.gr_expr.specs.Tables.{Record, Records}
use Rattle.gr_schema.specs.Paths.{key_type}
use Rattle.gr_schema.specs.Schema.{SchemaDef, changed_at, no_tables, table_at}
use Rattle.gr_schema.specs.declared.definition.Role.{Role}
use Rattle.gr_schema.specs.declared.definition.Role.TheVariants.{Scalar, Vector, Index}
use Rattle.gr_schema.specs.declared.definition.TableDef.{TableDef}
use Rattle.gr_values.specs.Defaults.{default_of}
use Rattle.gr_values.specs.declared.data_type.Kind.{Kind}
use Rattle.gr_values.specs.declared.data_type.Kind.TheVariants.{Plain, Reference}
use Rattle.gr_values.specs.declared.data_type.Shape.{Shape}
use Rattle.gr_values.specs.declared.value.Cell.{Cell}
use Rattle.gr_values.specs.declared.value.Key.{Key}

-- a database: its schema, and the records of each table in order of making
pub record Db : Type 0 where
  pub schema : SchemaDef
  pub tables : List Records

-- the database without tables
abbrev pub empty : Db
empty = record { schema = no_tables; tables = [] }

-- the shape of a column that holds values of a type, or references to a table
abbrev pub kind_shape : SchemaDef → Bool → Kind → Option Shape
kind_shape schema list (Plain type) = Some (record { list = list; of = type; reference = false })
kind_shape schema list (Reference to) = option_map (λ key. record { list = list; of = key; reference = true }) (key_type schema to)

-- the shape of a data column's cells; an index has none
abbrev pub role_shape : SchemaDef → Role → Option Shape
role_shape schema (Scalar kind) = kind_shape schema false kind
role_shape schema (Vector kind) = kind_shape schema true kind
role_shape schema (Index target sources position section) = None

-- the shapes of a table's columns, in order of making
abbrev pub shapes_of : SchemaDef → TableDef → List (Option Shape)
shapes_of schema table = map (λ column. role_shape schema column.role) table.columns

-- the shapes of the columns of the table of this number
abbrev pub shapes_at : SchemaDef → TableNo → List (Option Shape)
shapes_at schema table = option_map_or (shapes_of schema) (table_at schema table) []

-- what a record holds in columns of these shapes before values are given
abbrev pub blank : List (Option Shape) → List (Option Cell)
blank shapes = map (λ shape. option_map default_of shape) shapes

-- a record that was added, and to which no value was given
abbrev pub new_record : List (Option Shape) → Option Key → Record
new_record shapes key = record { key = key; cells = blank shapes }

-- records with one more, which goes last
abbrev pub with_record : List (Option Shape) → Option Key → Records → Records
with_record shapes key records = records ++ Some (new_record shapes key) ∷ []

-- a record with another cell in a column
abbrev pub with_cell : ColumnNo → Cell → Record → Record
with_cell column cell found = record found { cells = changed_at column.0 (λ old. Some cell) found.cells }

-- records of which the one of this id, where there is one, is changed
abbrev pub changed_in : ℕ → (Record → Record) → Records → Records
changed_in zero change records = records
changed_in (suc n) change records = changed_at n (option_map change) records

-- records without the one of this id, which is not given again
abbrev pub without : ℕ → Records → Records
without zero records = records
without (suc n) records = changed_at n (λ old. None) records

-- a record with one more column, which holds this
abbrev pub with_one_more : Option Cell → Record → Record
with_one_more cell found = record found { cells = found.cells ++ cell ∷ [] }

-- records with one more column, which holds this in each
abbrev pub with_column_of : Option Cell → Records → Records
with_column_of cell records = map (option_map (with_one_more cell)) records

-- a database of which the records of one table are changed
abbrev pub changed_table : TableNo → (Records → Records) → Db → Db
changed_table table change db = record db { tables = changed_at table.0 change db.tables }
