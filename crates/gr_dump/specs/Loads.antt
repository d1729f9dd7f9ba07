-- The loads that put a table's records back.
use Rattle.std.specs.Prelude.{ℕ, ◌+◌, ◌==◌, Bool, false, is_some, not, if◌then◌else◌, Some, None, List, [], ◌∷◌, ◌++◌, filter, length, map, codes}
use Rattle.std.specs.Option.{option_map_or}
use Rattle.json.specs.Print.{quoted}
use Rattle.gr_base.specs.declared.numbers.TableNo.{TableNo}
use Rattle.gr_dump.specs.Words.{line, words_line}
use Rattle.gr_expr.specs.Tables.{Records, record_id, records_of}
use Rattle.gr_print.specs.Block.{row_text}
use Rattle.gr_print.specs.Columns.{data_columns, path_column}
use Rattle.gr_print.specs.declared.out_column.OutColumn.{OutColumn}
use Rattle.gr_print.specs.declared.out_column.OutItem.{OutItem}
use Rattle.gr_print.specs.declared.out_column.OutItem.TheVariants.{At, Score}
use Rattle.gr_schema.specs.Paths.{path_of}
use Rattle.gr_schema.specs.Schema.{SchemaDef, is_keyed, is_lexicon}
use Rattle.gr_schema.specs.Words.{key_name}
use Rattle.gr_schema.specs.declared.definition.TableDef.{TableDef}
use Rattle.gr_values.specs.Shown.{bracketed}

-- what columns show of each record, the ids counted on from this one
abbrev pub rows_from : List Records → List OutColumn → ℕ → Records → List (List ℕ)
rows_from tables columns id [] = []
rows_from tables columns id (None ∷ records) = rows_from tables columns (id + 1) records
rows_from tables columns id (Some found ∷ records) = row_text tables columns (record_id id, 0) ∷ rows_from tables columns (id + 1) records

-- what columns show of each record of a table
abbrev pub rows_of : List Records → List OutColumn → TableNo → List (List ℕ)
rows_of tables columns table = rows_from tables columns 1 (records_of tables table)

-- rows as lines, with a comma after each but the last
abbrev pub row_lines : List (List ℕ) → List ℕ
row_lines [] = []
row_lines (row ∷ []) = line row
row_lines (row ∷ next ∷ rows) = line (row ++ codes ",") ++ row_lines (next ∷ rows)

-- a load of rows under the names of their columns
abbrev pub load_lines : TableDef → List OutColumn → List (List ℕ) → List ℕ
load_lines home columns rows =
    words_line (codes "load" ∷ codes "--table" ∷ home.name ∷ [])
    ++ line (codes "[")
    ++ line (bracketed (map (λ column. quoted column.name) columns) ++ codes ",")
    ++ row_lines rows
    ++ line (codes "]")

-- where there is no row there is no load
abbrev pub load_of : TableDef → List OutColumn → List (List ℕ) → List ℕ
load_of home columns [] = []
load_of home columns (row ∷ rows) = load_lines home columns (row ∷ rows)

-- whether what a column shows are references
abbrev pub shows_references : OutItem → Bool
shows_references (At path) = is_some path.to
shows_references Score = false

-- whether a column refers to records
abbrev pub is_reference : OutColumn → Bool
is_reference column = shows_references column.item

-- the key of a table's records, as a column
abbrev pub key_columns : SchemaDef → TableNo → List OutColumn
key_columns schema table = option_map_or (λ path. path_column key_name path ∷ []) (path_of schema table key_name) []

-- the data columns whose values are no references
abbrev pub value_columns : SchemaDef → TableNo → List OutColumn
value_columns schema table = filter (λ column. not (is_reference column)) (data_columns schema table)

-- the data columns whose values are references
abbrev pub reference_columns : SchemaDef → TableNo → List OutColumn
reference_columns schema table = filter is_reference (data_columns schema table)

-- records of a table with their keys and what stands in these columns
abbrev pub keyed_load : SchemaDef → List Records → TableNo → TableDef → List OutColumn → List ℕ
keyed_load schema tables table home columns =
    let shown = key_columns schema table ++ columns in load_of home shown (rows_of tables shown table)

-- a keyed table that is no lexicon: its keys, and its values that are no references
abbrev pub value_load : SchemaDef → List Records → TableNo → TableDef → List ℕ
value_load schema tables table home =
    if is_keyed home then (if is_lexicon home then [] else keyed_load schema tables table home (value_columns schema table)) else []

-- a keyed table that has a reference column: its keys, and its references
abbrev pub reference_load : SchemaDef → List Records → TableNo → TableDef → List ℕ
reference_load schema tables table home =
    let columns = reference_columns schema table in
    if is_keyed home then (if length columns == 0 then [] else keyed_load schema tables table home columns) else []

-- a keyless table: all its values
abbrev pub keyless_load : SchemaDef → List Records → TableNo → TableDef → List ℕ
keyless_load schema tables table home =
    let columns = data_columns schema table in
    if is_keyed home then [] else load_of home columns (rows_of tables columns table)
