-- The words in which tables and columns are written.
use Rattle.std.specs.Prelude.{ℕ, Bool, if◌then◌else◌, List, [], ◌++◌, codes}
use Rattle.std.specs.List.{join_with_byte}
use Rattle.std.specs.Option.{option_map_or}
use Rattle.std.specs.Str.{byte}
use Rattle.gr_base.specs.declared.numbers.TableNo.{TableNo}
use Rattle.gr_print.specs.Block.{type_text}
use Rattle.gr_schema.specs.Schema.{SchemaDef, column_in, table_at}
use Rattle.gr_schema.specs.Words.{id_name, key_name}
use Rattle.gr_schema.specs.declared.definition.TableDef.{TableDef}
use Rattle.gr_schema.specs.declared.definition.TableKind.{TableKind}
use Rattle.gr_schema.specs.declared.definition.TableKind.TheVariants.{NoKey, Hash, Pat}
use Rattle.gr_tokens.specs.declared.tokenizer.Tokenizer.{Tokenizer}
use Rattle.gr_tokens.specs.declared.tokenizer.Tokenizer.TheVariants.{Delimit, Bigram}
use Rattle.gr_values.specs.declared.data_type.Kind.{Kind}
use Rattle.gr_values.specs.declared.data_type.Kind.TheVariants.{Plain, Reference}
use Rattle.gr_values.specs.declared.path.Field.{Field}

-- a text as a line
abbrev pub line : List ℕ → List ℕ
line text = text ++ codes "\n"

-- words as a line, with a space between them
abbrev pub words_line : List (List ℕ) → List ℕ
words_line words = line (join_with_byte (byte " ") words)

-- the kind of a table
abbrev pub kind_text : TableKind → List ℕ
kind_text NoKey = codes "TABLE_NO_KEY"
kind_text Hash = codes "TABLE_HASH_KEY"
kind_text Pat = codes "TABLE_PAT_KEY"

-- how a lexicon cuts texts
abbrev pub tokenizer_text : Tokenizer → List ℕ
tokenizer_text Delimit = codes "TokenDelimit"
tokenizer_text Bigram = codes "TokenBigram"

-- the name of a table
abbrev pub table_name : SchemaDef → TableNo → List ℕ
table_name schema table = option_map_or (λ def. def.name) (table_at schema table) []

-- what a column holds: values of a type, or references to a table
abbrev pub holds_text : SchemaDef → Kind → List ℕ
holds_text schema (Plain of) = type_text of
holds_text schema (Reference to) = table_name schema to

-- the name of a field of a table's records
abbrev pub field_name : TableDef → Field → List ℕ
field_name home Field.Id = id_name
field_name home Field.Key = key_name
field_name home (Field.Column column) = option_map_or (λ def. def.name) (column_in home column) []

-- a flag where it is set
abbrev pub flag : Bool → List ℕ → List ℕ
flag set text = if set then text else []

-- the flags of an index
abbrev pub index_flags : Bool → Bool → List ℕ
index_flags section position = codes "COLUMN_INDEX" ++ flag section (codes "|WITH_SECTION") ++ flag position (codes "|WITH_POSITION")
