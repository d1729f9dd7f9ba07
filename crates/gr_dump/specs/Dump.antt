-- The commands that make a database again.
use Rattle.std.specs.Prelude.{ℕ, ◌+◌, if◌then◌else◌, List, [], ◌∷◌, ◌++◌, flat_map, map, codes}
use Rattle.std.specs.List.{join_with_byte}
use Rattle.std.specs.Option.{option_map, option_map_or, option_to_list}
use Rattle.std.specs.Str.{byte}
use Rattle.gr_base.specs.declared.numbers.ColumnNo.{ColumnNo}
use Rattle.gr_base.specs.declared.numbers.TableNo.{TableNo}
use Rattle.gr_dump.specs.Loads.{keyless_load, reference_load, value_load}
use Rattle.gr_dump.specs.Words.{field_name, holds_text, index_flags, kind_text, table_name, tokenizer_text, words_line}
use Rattle.gr_expr.specs.Tables.{Records}
use Rattle.gr_print.specs.Block.{type_text}
use Rattle.gr_schema.specs.Schema.{SchemaDef, column_at, is_lexicon, table_at, table_no}
use Rattle.gr_schema.specs.declared.definition.ColumnDef.{ColumnDef}
use Rattle.gr_schema.specs.declared.definition.Role.{Role}
use Rattle.gr_schema.specs.declared.definition.Role.TheVariants.{Scalar, Vector, Index}
use Rattle.gr_schema.specs.declared.definition.TableDef.{TableDef}
use Rattle.gr_values.specs.declared.path.Field.{Field}

-- what is written for each of these tables, which are counted on from this number
abbrev pub each_from : (TableNo → TableDef → List ℕ) → ℕ → List TableDef → List ℕ
each_from text n [] = []
each_from text n (home ∷ tables) = text (table_no n) home ++ each_from text (n + 1) tables

-- what is written for each table
abbrev pub each : SchemaDef → (TableNo → TableDef → List ℕ) → List ℕ
each schema text = each_from text 0 schema.tables

-- a table that is no lexicon
abbrev pub table_line : TableDef → List ℕ
table_line home =
    if is_lexicon home then [] else words_line (codes "table_create" ∷ home.name ∷ kind_text home.kind ∷ option_to_list (option_map type_text home.key))

-- a table that is a lexicon
abbrev pub lexicon_line : TableDef → List ℕ
lexicon_line home =
    option_map_or
    (λ tokenizer. words_line (codes "table_create" ∷ home.name ∷ kind_text home.kind ∷ codes "ShortText" ∷ codes "--default_tokenizer" ∷ tokenizer_text tokenizer ∷ []))
    home.tokenizer []

-- a column of a table
abbrev pub column_words : TableDef → ColumnDef → List ℕ → List ℕ → List (List ℕ)
column_words home column flags holds = codes "column_create" ∷ home.name ∷ column.name ∷ flags ∷ holds ∷ []

-- a data column
abbrev pub data_line : SchemaDef → TableDef → ColumnDef → Role → List ℕ
data_line schema home column (Scalar kind) = words_line (column_words home column (codes "COLUMN_SCALAR") (holds_text schema kind))
data_line schema home column (Vector kind) = words_line (column_words home column (codes "COLUMN_VECTOR") (holds_text schema kind))
data_line schema home column (Index target sources position section) = []

-- the data columns of a table
abbrev pub data_lines : SchemaDef → TableDef → List ℕ
data_lines schema home = flat_map (λ column. data_line schema home column column.role) home.columns

-- the fields that an index reads
abbrev pub sources_text : SchemaDef → TableNo → List Field → List ℕ
sources_text schema target sources = option_map_or (λ read. join_with_byte (byte ",") (map (field_name read) sources)) (table_at schema target) []

-- an index column
abbrev pub index_line_of : SchemaDef → TableDef → ColumnDef → Role → List ℕ
index_line_of schema home column (Index target sources position section) =
    words_line (column_words home column (index_flags section position) (table_name schema target) ++ sources_text schema target sources ∷ [])
index_line_of schema home column (Scalar kind) = []
index_line_of schema home column (Vector kind) = []

-- the index column of these numbers
abbrev pub index_line : SchemaDef → TableNo × ColumnNo → List ℕ
index_line schema index =
    option_map_or (λ home. option_map_or (λ column. index_line_of schema home column column.role) (column_at schema index.0 index.1) []) (table_at schema index.0) []

-- the tables that are no lexicons, their data columns, their records, then the lexicons, and all index columns
abbrev pub dump_text : SchemaDef → List Records → List ℕ
dump_text schema tables =
    each schema (λ table home. table_line home)
    ++ each schema (λ table home. data_lines schema home)
    ++ each schema (value_load schema tables)
    ++ each schema (reference_load schema tables)
    ++ each schema (keyless_load schema tables)
    ++ each schema (λ table home. lexicon_line home)
    ++ flat_map (index_line schema) schema.indexes
