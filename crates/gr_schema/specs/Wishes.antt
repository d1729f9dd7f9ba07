-- Which tables and columns may be made: the first fault of a wish, and the definition that a wish without a fault means.
use Rattle.std.specs.Prelude.{◌≡◌, ℕ, Bool, true, false, ◌==◌, ◌&&◌, ◌||◌, not, nat_le, if◌then◌else◌, Option, Some, None, is_some, is_none, unwrap_or, Result, Ok, Err, IsUtf8, List, [], ◌∷◌, length, codes}
use Rattle.std.specs.List.{filter_map, list_all, slice_split}
use Rattle.std.specs.Option.{option_and_then, option_map, option_map_or, option_or, option_to_list}
use Rattle.std.specs.Str.{byte}
use Rattle.gr_base.specs.Fault.{fault_named}
use Rattle.gr_base.specs.Name.{is_name}
use Rattle.gr_base.specs.declared.failure.Failure.{Failure}
use Rattle.gr_base.specs.declared.failure.Failure.TheVariants.{Refused, NoMemory}
use Rattle.gr_base.specs.declared.fault.Fault.{Fault}
use Rattle.gr_base.specs.declared.fault.FaultKind.TheVariants.{BadFlags, BadName, BadSource, BadType, BadValue, NameTaken, NoSuchTable}
use Rattle.gr_base.specs.declared.limits.TheConstants.{MOST_SOURCES}
use Rattle.gr_base.specs.declared.numbers.TableNo.{TableNo}
use Rattle.gr_tokens.specs.declared.tokenizer.Tokenizer.{Tokenizer}
use Rattle.gr_values.specs.Types.{is_bool, is_key_type}
use Rattle.gr_values.specs.declared.data_type.DataType.{DataType}
use Rattle.gr_values.specs.declared.data_type.Kind.{Kind}
use Rattle.gr_values.specs.declared.data_type.Kind.TheVariants.{Plain, Reference}
use Rattle.gr_values.specs.declared.path.Field.{Field}
use Rattle.gr_schema.specs.Fields.{are_different, field_named, is_reference_field, is_short_text, is_text_field, only}
use Rattle.gr_schema.specs.Flags.{are_flags, fit_table, flags_of, has, index_flag, position_flag, section_flag, vector_flag}
use Rattle.gr_schema.specs.Schema.{SchemaDef, column_named, is_keyed, is_lexicon, table_at, table_named}
use Rattle.gr_schema.specs.Words.{is_one_of, named, reserved_names, script_words, table_kinds, tokenizers, types}
use Rattle.gr_schema.specs.declared.definition.ColumnDef.{ColumnDef}
use Rattle.gr_schema.specs.declared.definition.Role.{Role}
use Rattle.gr_schema.specs.declared.definition.Role.TheVariants.{Scalar, Vector, Index}
use Rattle.gr_schema.specs.declared.definition.TableDef.{TableDef}
use Rattle.gr_schema.specs.declared.definition.TableKind.{TableKind}
use Rattle.gr_schema.specs.declared.definition.TableKind.TheVariants.{NoKey, Hash, Pat}
use Rattle.gr_schema.specs.declared.wish.ColumnWish.{ColumnWish}
use Rattle.gr_schema.specs.declared.wish.TableWish.{TableWish}

-- the fault of the first of these that holds
abbrev pub first_fault : List (Bool × Fault) → Option Fault
first_fault [] = None
first_fault (rule ∷ rules) = if rule.0 then Some rule.1 else first_fault rules

-- whether a text was given
abbrev pub is_given : List ℕ → Bool
is_given text = not (length text == 0)

-- Tables

-- the kind of a table that flags ask for: a hash table where they are not given
abbrev pub kind_of : List ℕ → TableKind
kind_of flags = unwrap_or (named table_kinds flags) Hash

-- the type of keys of this name
abbrev pub key_type_named : List ℕ → Option DataType
key_type_named name = only is_key_type (named types name)

-- whether this is the key type of such a table: a keyless one has none, and a keyed one one that keys can have
abbrev pub fits_kind : TableKind → List ℕ → Bool
fits_kind NoKey key_type = not (is_given key_type)
fits_kind Hash key_type = is_some (key_type_named key_type)
fits_kind Pat key_type = is_some (key_type_named key_type)

-- the rules for a table, each with what breaks it and the fault that is then told, in their order
abbrev pub table_rules : SchemaDef → TableWish → List (Bool × Fault)
table_rules schema wish =
    (not (is_name wish.name), fault_named BadName wish.name)
    ∷ (is_one_of reserved_names wish.name || is_some (table_named schema wish.name), fault_named NameTaken wish.name)
    ∷ (is_given wish.flags && is_none (named table_kinds wish.flags), fault_named BadFlags wish.flags)
    ∷ (not (fits_kind (kind_of wish.flags) wish.key_type), fault_named BadType wish.key_type)
    ∷ (is_given wish.tokenizer && is_none (named tokenizers wish.tokenizer), fault_named BadValue (codes "default_tokenizer"))
    ∷ (is_given wish.tokenizer && not (is_short_text (key_type_named wish.key_type)), fault_named BadType wish.key_type)
    ∷ []

-- the first fault of a wish for a table, or none
abbrev pub table_fault : SchemaDef → TableWish → Option Fault
table_fault schema wish = first_fault (table_rules schema wish)

-- the table that a wish without a fault means
abbrev pub table_of : TableWish → TableDef
table_of wish = record {
  name = wish.name;
  kind = kind_of wish.flags;
  key = key_type_named wish.key_type;
  tokenizer = named tokenizers wish.tokenizer;
  columns = [];
}

-- Columns

-- a table with its number
pub record Home : Type 0 where
  pub number : TableNo
  pub def : TableDef

abbrev pub home_of : TableNo → TableDef → Home
home_of number def = record { number = number; def = def }

-- the table of this name
abbrev pub home_named : SchemaDef → List ℕ → Option Home
home_named schema name =
    option_and_then (λ number. option_map (home_of number) (table_at schema number)) (table_named schema name)

-- whether a name may be that of a column
abbrev pub is_column_name : List ℕ → Bool
is_column_name name = is_name name && not (is_one_of script_words name)

-- whether references can refer to a table: one with keys that is no lexicon
abbrev pub can_be_referred_to : TableDef → Bool
can_be_referred_to table = is_keyed table && not (is_lexicon table)

-- what a data column holds whose type has this name: values of a type, or references to a table
abbrev pub kind_named : SchemaDef → List ℕ → Option Kind
kind_named schema name =
    option_or
    (option_map Plain (named types name))
    (option_map (λ to. Reference to.number) (only (λ to. can_be_referred_to to.def) (home_named schema name)))

-- whether a vector can hold such values
abbrev pub fits_vector : Kind → Bool
fits_vector (Plain type) = not (is_bool type)
fits_vector (Reference to) = true

-- the table that an index is over whose type has this name: one that is no lexicon
abbrev pub target_named : SchemaDef → List ℕ → Option Home
target_named schema name = only (λ target. not (is_lexicon target.def)) (home_named schema name)

-- whether the type of this name fits the flags
abbrev pub fits_flags : SchemaDef → List (List ℕ) → List ℕ → Bool
fits_flags schema flags type =
    if has index_flag flags then is_some (target_named schema type)
    else if has vector_flag flags then option_map_or fits_vector (kind_named schema type) false
    else is_some (kind_named schema type)

-- whether a byte stands between two sources
abbrev pub is_comma : ℕ → Bool
is_comma c = c == byte ","

-- the field of the target that a source names, where the index's home can read it
abbrev pub source_named : Home → TableDef → List ℕ → Option Field
source_named home target name =
    if is_lexicon home.def then only (is_text_field target) (field_named target name)
    else only (is_reference_field home.number target) (field_named target name)

-- the sources that a text lists: on a lexicon with commas between them, and otherwise one
abbrev pub source_names : Home → List ℕ → List (List ℕ)
source_names home source = if is_lexicon home.def then slice_split is_comma source else source ∷ []

-- the fields that an index reads
abbrev pub sources_of : Home → TableDef → List ℕ → List Field
sources_of home target source = filter_map (source_named home target) (source_names home source)

-- whether each source is a field that the index can read, none stands twice, and there is one, or with sections not too many
abbrev pub are_sources : Home → TableDef → Bool → List ℕ → Bool
are_sources home target section source =
    list_all (λ name. is_some (source_named home target name)) (source_names home source)
    && nat_le (length (sources_of home target source)) (if section then MOST_SOURCES else 1)
    && are_different (sources_of home target source)

-- whether the source fits the flags: a data column has none
abbrev pub fits_source : SchemaDef → Home → ColumnWish → Bool
fits_source schema home wish =
    if has index_flag (flags_of wish.flags) then
    option_map_or
    (λ target. are_sources home target.def (has section_flag (flags_of wish.flags)) wish.source)
    (target_named schema wish.kind)
    false
    else not (is_given wish.source)

-- the rules for a column of this table, each with what breaks it and the fault that is then told, in their order
abbrev pub column_rules : SchemaDef → Home → ColumnWish → List (Bool × Fault)
column_rules schema home wish =
    (not (is_column_name wish.name), fault_named BadName wish.name)
    ∷ (is_some (column_named home.def wish.name), fault_named NameTaken wish.name)
    ∷ (not (are_flags (flags_of wish.flags) && fit_table home.def (flags_of wish.flags)), fault_named BadFlags wish.flags)
    ∷ (not (fits_flags schema (flags_of wish.flags) wish.kind), fault_named BadType wish.kind)
    ∷ (not (fits_source schema home wish), fault_named BadSource wish.source)
    ∷ []

-- the first fault of a wish for a column, or none; its table is looked for first
abbrev pub column_fault : SchemaDef → ColumnWish → Option Fault
column_fault schema wish =
    option_map_or
    (λ home. first_fault (column_rules schema home wish))
    (home_named schema wish.table)
    (Some (fault_named NoSuchTable wish.table))

-- what a column is for that a wish without a fault means
abbrev pub role_of : SchemaDef → Home → ColumnWish → Option Role
role_of schema home wish =
    let flags = flags_of wish.flags in
    if has index_flag flags then
    option_map
    (λ target. Index target.number (sources_of home target.def wish.source) (has position_flag flags) (has section_flag flags))
    (target_named schema wish.kind)
    else if has vector_flag flags then option_map Vector (kind_named schema wish.kind)
    else option_map Scalar (kind_named schema wish.kind)

-- the column that a wish without a fault means, and the table that is to have it
abbrev pub column_of : SchemaDef → ColumnWish → Option (TableNo × ColumnDef)
column_of schema wish =
    option_and_then
    (λ home. option_map (λ role. (home.number, record { name = wish.name; role = role })) (role_of schema home wish))
    (home_named schema wish.table)

-- Answers

-- a wish is answered by its first fault, or where it has none by what it means; for want of memory nothing is said
abbrev pub IsAnswer : {X : Type 0} → Option Fault → Option X → Result X (Failure Fault) → Type 0
IsAnswer fault meant (Ok made) = (fault ≡ None) × (meant ≡ Some made)
IsAnswer fault meant (Err (Refused why)) = fault ≡ Some why
IsAnswer fault meant (Err NoMemory) = Unit {0}

-- the texts of a wish for a table are UTF-8
pub record IsTextTable (wish : TableWish) : Type 0 where
  pub name : IsUtf8 wish.name
  pub flags : IsUtf8 wish.flags
  pub key_type : IsUtf8 wish.key_type

-- the texts of a wish for a column are UTF-8
pub record IsTextColumn (wish : ColumnWish) : Type 0 where
  pub table : IsUtf8 wish.table
  pub name : IsUtf8 wish.name
  pub flags : IsUtf8 wish.flags
  pub kind : IsUtf8 wish.kind
  pub source : IsUtf8 wish.source

-- the text that a fault tells is UTF-8
abbrev pub IsTold : Failure Fault → Type 0
IsTold (Refused fault) = IsUtf8 fault.name
IsTold NoMemory = Unit {0}

-- a table that some wish without a fault means
pub record IsTableFor (schema : SchemaDef) (table : TableDef) : Type 0 where
  pub wish : TableWish
  pub faultless : table_fault schema wish ≡ None
  pub meant : table_of wish ≡ table

-- a column of this table that some wish without a fault means
pub record IsColumnFor (schema : SchemaDef) (table : TableNo) (column : ColumnDef) : Type 0 where
  pub wish : ColumnWish
  pub faultless : column_fault schema wish ≡ None
  pub meant : column_of schema wish ≡ Some (table, column)
