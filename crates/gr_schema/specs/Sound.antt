-- What holds of every schema: each table and column is one that a wish may ask for, and names tell them apart.
use Rattle.std.specs.Prelude.{◌≡◌, ◌≤◌, ℕ, Bool, true, false, Some, IfSome, IsUtf8, List, length, slice_get}
use Rattle.std.specs.List.{list_all}
use Rattle.gr_base.specs.Name.{is_name}
use Rattle.gr_base.specs.declared.limits.TheConstants.{MOST_SOURCES}
use Rattle.gr_base.specs.declared.numbers.ColumnNo.{ColumnNo}
use Rattle.gr_base.specs.declared.numbers.TableNo.{TableNo}
use Rattle.gr_values.specs.Types.{is_key_type}
use Rattle.gr_values.specs.declared.data_type.DataType.{DataType}
use Rattle.gr_values.specs.declared.data_type.Kind.{Kind}
use Rattle.gr_values.specs.declared.data_type.Kind.TheVariants.{Plain, Reference}
use Rattle.gr_values.specs.declared.path.Field.{Field}
use Rattle.gr_schema.specs.Fields.{are_different, is_reference_field, is_short_text, is_text_field}
use Rattle.gr_schema.specs.Schema.{SchemaDef, column_at, column_in, column_named, column_no, is_index, is_keyed, is_lexicon, table_at, table_named, table_no}
use Rattle.gr_schema.specs.Wishes.{can_be_referred_to, fits_vector, is_column_name}
use Rattle.gr_schema.specs.Words.{is_one_of, reserved_names}
use Rattle.gr_schema.specs.declared.definition.ColumnDef.{ColumnDef}
use Rattle.gr_schema.specs.declared.definition.Role.{Role}
use Rattle.gr_schema.specs.declared.definition.Role.TheVariants.{Scalar, Vector, Index}
use Rattle.gr_schema.specs.declared.definition.TableDef.{TableDef}
use Rattle.gr_schema.specs.declared.definition.TableKind.{TableKind}
use Rattle.gr_schema.specs.declared.definition.TableKind.TheVariants.{NoKey, Hash, Pat}

-- whether records of such a table have keys
abbrev pub has_keys : TableKind → Bool
has_keys NoKey = false
has_keys Hash = true
has_keys Pat = true

-- references refer to a table that is there, has keys and is no lexicon
abbrev pub IsKind : SchemaDef → Kind → Type 0
IsKind schema (Plain type) = Unit {0}
IsKind schema (Reference to) = (def : TableDef) × (table_at schema to ≡ Some def) × (can_be_referred_to def ≡ true)

-- an index is over a table that is there and no lexicon, on one field or, with sections, on more, each once; on a lexicon they are
-- texts, and on another table they refer to that table
pub record IsIndex (schema : SchemaDef) (number : TableNo) (home : TableDef) (target : TableNo) (sources : List Field) (section : Bool) : Type 0 where
  pub keyed : is_keyed home ≡ true
  pub def : TableDef
  pub target_there : table_at schema target ≡ Some def
  pub target_plain : is_lexicon def ≡ false
  pub some : 1 ≤ length sources
  pub few : length sources ≤ MOST_SOURCES
  pub one : section ≡ false → length sources ≡ 1
  pub lexicon : section ≡ true → is_lexicon home ≡ true
  pub different : are_different sources ≡ true
  pub texts : is_lexicon home ≡ true → list_all (is_text_field def) sources ≡ true
  pub references : is_lexicon home ≡ false → list_all (is_reference_field number def) sources ≡ true

-- a lexicon has no data columns
abbrev pub IsRole : SchemaDef → TableNo → TableDef → Role → Type 0
IsRole schema number home (Scalar kind) = (is_lexicon home ≡ false) × IsKind schema kind
IsRole schema number home (Vector kind) = (is_lexicon home ≡ false) × (fits_vector kind ≡ true) × IsKind schema kind
IsRole schema number home (Index target sources position section) = IsIndex schema number home target sources section

-- a column has a name that no earlier one of its table has
pub record IsColumn (schema : SchemaDef) (number : TableNo) (home : TableDef) (n : ℕ) (column : ColumnDef) : Type 0 where
  pub name : is_column_name column.name ≡ true
  pub utf8 : IsUtf8 column.name
  pub first : column_named home column.name ≡ Some (column_no n)
  pub role : IsRole schema number home column.role

-- a table has a name that is free and that no earlier one has, keys where its kind has them, and as a lexicon short texts as keys
pub record IsTable (schema : SchemaDef) (n : ℕ) (table : TableDef) : Type 0 where
  pub name : is_name table.name ≡ true
  pub utf8 : IsUtf8 table.name
  pub free : is_one_of reserved_names table.name ≡ false
  pub first : table_named schema table.name ≡ Some (table_no n)
  pub keys : is_keyed table ≡ has_keys table.kind
  pub key_type : IfSome table.key (λ type. is_key_type type ≡ true)
  pub lexicon : is_lexicon table ≡ true → is_short_text table.key ≡ true
  pub columns : (c : ℕ) (column : ColumnDef) → slice_get table.columns c ≡ Some column → IsColumn schema (table_no n) table c column

-- an item stands somewhere in a list
abbrev pub Stands : {X : Type 0} → List X → X → Type 0
Stands xs x = (i : ℕ) × (slice_get xs i ≡ Some x)

-- a column of a table that is there is an index
pub record IsIndexColumn (schema : SchemaDef) (index : TableNo × ColumnNo) : Type 0 where
  pub column : ColumnDef
  pub there : column_at schema index.0 index.1 ≡ Some column
  pub is : is_index column.role ≡ true

-- each table is sound, and the index columns that are listed are those of the tables, each once
pub record IsSound (schema : SchemaDef) : Type 0 where
  pub tables : (n : ℕ) (table : TableDef) → slice_get schema.tables n ≡ Some table → IsTable schema n table
  pub listed : (index : TableNo × ColumnNo) → Stands schema.indexes index → IsIndexColumn schema index
  pub complete : (index : TableNo × ColumnNo) → IsIndexColumn schema index → Stands schema.indexes index
  pub once : (i j : ℕ) (index : TableNo × ColumnNo) → slice_get schema.indexes i ≡ Some index → slice_get schema.indexes j ≡ Some index → i ≡ j
