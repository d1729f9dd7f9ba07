-- Fields of a table by their names, and which of them an index can read.
use Rattle.std.specs.Prelude.{ℕ, Bool, true, false, ◌==◌, ◌&&◌, not, if◌then◌else◌, Option, Some, None, is_some, List, [], ◌∷◌}
use Rattle.std.specs.List.{list_any}
use Rattle.std.specs.Option.{option_map, option_map_or}
use Rattle.std.specs.Str.{bytes_eq}
use Rattle.gr_base.specs.declared.numbers.ColumnNo.{ColumnNo}
use Rattle.gr_base.specs.declared.numbers.TableNo.{TableNo}
use Rattle.gr_values.specs.declared.data_type.DataType.{DataType}
use Rattle.gr_values.specs.declared.data_type.DataType.TheVariants.{Bool as Truth, Int8, Int16, Int32, Int64, UInt8, UInt16, UInt32, UInt64, ShortText, Text, LongText}
use Rattle.gr_values.specs.declared.data_type.Kind.{Kind}
use Rattle.gr_values.specs.declared.data_type.Kind.TheVariants.{Plain, Reference}
use Rattle.gr_values.specs.declared.path.Field.{Field}
use Rattle.gr_values.specs.declared.path.Field.TheVariants.{Id, Key, Column}
use Rattle.gr_values.specs.Types.{text_limit}
use Rattle.gr_schema.specs.Schema.{column_named, column_in}
use Rattle.gr_schema.specs.Words.{key_name}
use Rattle.gr_schema.specs.declared.definition.ColumnDef.{ColumnDef}
use Rattle.gr_schema.specs.declared.definition.Role.{Role}
use Rattle.gr_schema.specs.declared.definition.Role.TheVariants.{Scalar, Vector, Index}
use Rattle.gr_schema.specs.declared.definition.TableDef.{TableDef}

-- what was found, where it passes
abbrev pub only : {X : Type 0} → (X → Bool) → Option X → Option X
only passes None = None
only passes (Some x) = if passes x then Some x else None

-- whether two fields are one
abbrev pub is_same_field : Field → Field → Bool
is_same_field Id Id = true
is_same_field Id Key = false
is_same_field Id (Column other) = false
is_same_field Key Id = false
is_same_field Key Key = true
is_same_field Key (Column other) = false
is_same_field (Column column) Id = false
is_same_field (Column column) Key = false
is_same_field (Column column) (Column other) = column.0 == other.0

-- whether no field stands twice
abbrev pub are_different : List Field → Bool
are_different [] = true
are_different (field ∷ fields) = not (list_any (is_same_field field) fields) && are_different fields

-- whether keys are short texts
abbrev pub is_short_text : Option DataType → Bool
is_short_text None = false
is_short_text (Some Truth) = false
is_short_text (Some Int8) = false
is_short_text (Some Int16) = false
is_short_text (Some Int32) = false
is_short_text (Some Int64) = false
is_short_text (Some UInt8) = false
is_short_text (Some UInt16) = false
is_short_text (Some UInt32) = false
is_short_text (Some UInt64) = false
is_short_text (Some ShortText) = true
is_short_text (Some Text) = false
is_short_text (Some LongText) = false

-- whether a column holds one text
abbrev pub holds_text : Role → Bool
holds_text (Scalar (Plain type)) = is_some (text_limit type)
holds_text (Scalar (Reference to)) = false
holds_text (Vector kind) = false
holds_text (Index target sources position section) = false

-- whether a column holds references to this table, one or a list of them
abbrev pub refers_to : TableNo → Role → Bool
refers_to table (Scalar (Plain type)) = false
refers_to table (Scalar (Reference to)) = to.0 == table.0
refers_to table (Vector (Plain type)) = false
refers_to table (Vector (Reference to)) = to.0 == table.0
refers_to table (Index target sources position section) = false

-- whether a table has this column, with such a role
abbrev pub is_column_with : (Role → Bool) → TableDef → ColumnNo → Bool
is_column_with fits table column = option_map_or (λ def. fits def.role) (column_in table column) false

-- whether a lexicon's index can read a field: a key that is a short text, or a column that holds one text
abbrev pub is_text_field : TableDef → Field → Bool
is_text_field table Id = false
is_text_field table Key = is_short_text table.key
is_text_field table (Column column) = is_column_with holds_text table column

-- whether an index on this table, which is no lexicon, can read a field of the target: a column that refers to this table
abbrev pub is_reference_field : TableNo → TableDef → Field → Bool
is_reference_field table target Id = false
is_reference_field table target Key = false
is_reference_field table target (Column column) = is_column_with (refers_to table) target column

-- the key or the column of this name
abbrev pub field_named : TableDef → List ℕ → Option Field
field_named table name = if bytes_eq name key_name then Some Key else option_map Column (column_named table name)
