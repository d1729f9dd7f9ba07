-- Paths: names with dots between them, of which all but the last are columns of single references.
use Rattle.std.specs.Prelude.{ℕ, Bool, true, false, ◌==◌, if◌then◌else◌, Option, Some, None, List, [], ◌∷◌, codes}
use Rattle.std.specs.List.{slice_split}
use Rattle.std.specs.Option.{option_and_then, option_map}
use Rattle.std.specs.Str.{byte, bytes_eq}
use Rattle.gr_base.specs.declared.numbers.ColumnNo.{ColumnNo}
use Rattle.gr_base.specs.declared.numbers.TableNo.{TableNo}
use Rattle.gr_values.specs.declared.data_type.DataType.{DataType}
use Rattle.gr_values.specs.declared.data_type.DataType.TheVariants.{UInt32}
use Rattle.gr_values.specs.declared.data_type.Kind.{Kind}
use Rattle.gr_values.specs.declared.data_type.Kind.TheVariants.{Plain, Reference}
use Rattle.gr_values.specs.declared.data_type.Shape.{Shape}
use Rattle.gr_values.specs.declared.path.Field.{Field}
use Rattle.gr_values.specs.declared.path.Field.TheVariants.{Id, Key, Column}
use Rattle.gr_values.specs.declared.path.Hop.{Hop}
use Rattle.gr_values.specs.declared.path.Path.{Path}
use Rattle.gr_schema.specs.Schema.{SchemaDef, column_in, column_named, table_at}
use Rattle.gr_schema.specs.Words.{id_name, key_name}
use Rattle.gr_schema.specs.declared.definition.Role.{Role}
use Rattle.gr_schema.specs.declared.definition.Role.TheVariants.{Scalar, Vector, Index}
use Rattle.gr_schema.specs.declared.definition.TableDef.{TableDef}

-- a field of a record: which it is, what values it takes, and the table that it refers to where it is a reference
pub record End : Type 0 where
  pub last : Field
  pub shape : Shape
  pub to : Option TableNo

-- the type of a record's id
abbrev pub id_type : DataType
id_type = UInt32

-- a field with values of this type
abbrev pub plain_end : Field → Bool → DataType → End
plain_end field list type = record { last = field; shape = record { list = list; of = type; reference = false }; to = None }

-- a field with references to this table, whose keys have this type
abbrev pub reference_end : Field → Bool → TableNo → DataType → End
reference_end field list to key = record { last = field; shape = record { list = list; of = key; reference = true }; to = Some to }

-- the type of a table's keys
abbrev pub key_type : SchemaDef → TableNo → Option DataType
key_type schema table = option_and_then (λ def. def.key) (table_at schema table)

-- a column that holds one of these, or a list of them
abbrev pub kind_end : SchemaDef → Field → Bool → Kind → Option End
kind_end schema field list (Plain type) = Some (plain_end field list type)
kind_end schema field list (Reference to) = option_map (reference_end field list to) (key_type schema to)

-- a data column
abbrev pub role_end : SchemaDef → Field → Role → Option End
role_end schema field (Scalar kind) = kind_end schema field false kind
role_end schema field (Vector kind) = kind_end schema field true kind
role_end schema field (Index target sources position section) = None

-- a data column by its name
abbrev pub column_end : SchemaDef → TableDef → List ℕ → Option End
column_end schema home name =
    option_and_then
    (λ column. option_and_then (λ def. role_end schema (Column column) def.role) (column_in home column))
    (column_named home name)

-- the field of this name: the id, the key where records have keys, or a data column
abbrev pub field_end : SchemaDef → TableDef → List ℕ → Option End
field_end schema home name =
    if bytes_eq name id_name then Some (plain_end Id false id_type)
    else if bytes_eq name key_name then option_map (plain_end Key false) home.key
    else column_end schema home name

-- the table that a column of single references refers to
abbrev pub referred : Role → Option TableNo
referred (Scalar (Plain type)) = None
referred (Scalar (Reference to)) = Some to
referred (Vector kind) = None
referred (Index target sources position section) = None

-- the step along the column of single references of this name
abbrev pub hop_named : TableDef → List ℕ → Option Hop
hop_named home name =
    option_and_then
    (λ column. option_and_then
    (λ def. option_map (λ to. record { column = column; to = to }) (referred def.role))
    (column_in home column))
    (column_named home name)

-- steps, and the field of the last record that they lead to
pub record Way : Type 0 where
  pub through : List Hop
  pub end : End

-- a way with one more step before it
abbrev pub after_hop : Hop → Way → Way
after_hop hop way = record way { through = hop ∷ way.through }

-- the way that names make from a table: each but the last is a step to another record
abbrev pub way_along : SchemaDef → TableNo → List (List ℕ) → Option Way
way_along schema table [] = None
way_along schema table (last ∷ []) =
    option_map
    (λ end. record { through = []; end = end })
    (option_and_then (λ home. field_end schema home last) (table_at schema table))
way_along schema table (name ∷ next ∷ names) =
    option_and_then
    (λ hop. option_map (after_hop hop) (way_along schema hop.to (next ∷ names)))
    (option_and_then (λ home. hop_named home name) (table_at schema table))

-- whether a byte stands between two names
abbrev pub is_dot : ℕ → Bool
is_dot c = c == byte "."

-- the path from a table along a way
abbrev pub path_from : TableNo → Way → Path
path_from table way = record {
  table = table;
  through = way.through;
  last = way.end.last;
  shape = way.end.shape;
  to = way.end.to;
}

-- the path that a text writes
abbrev pub path_of : SchemaDef → TableNo → List ℕ → Option Path
path_of schema table text = option_map (path_from table) (way_along schema table (slice_split is_dot text))
