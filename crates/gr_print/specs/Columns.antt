-- Which columns are printed, and under which names.
use Rattle.std.specs.Prelude.{ℕ, ◌+◌, ◌==◌, ◌&&◌, not, Bool, if◌then◌else◌, Option, Some, None, Result, Ok, List, [], ◌∷◌, ◌++◌, filter, length, map, codes}
use Rattle.std.specs.List.{slice_split}
use Rattle.std.specs.Option.{ok_or, option_map, option_map_or, option_to_list}
use Rattle.std.specs.Str.{byte, bytes_eq}
use Rattle.gr_base.specs.Failure.{result_map, result_then}
use Rattle.gr_base.specs.Fault.{fault_named}
use Rattle.gr_base.specs.declared.fault.Fault.{Fault}
use Rattle.gr_base.specs.declared.fault.FaultKind.TheVariants.{NoSuchColumn}
use Rattle.gr_base.specs.declared.numbers.TableNo.{TableNo}
use Rattle.gr_schema.specs.Paths.{path_from, path_of, role_end}
use Rattle.gr_schema.specs.Schema.{SchemaDef, column_no, is_keyed, table_at}
use Rattle.gr_schema.specs.Words.{id_name, key_name}
use Rattle.gr_schema.specs.declared.definition.ColumnDef.{ColumnDef}
use Rattle.gr_schema.specs.declared.definition.TableDef.{TableDef}
use Rattle.gr_text.specs.Characters.{is_white_space}
use Rattle.gr_values.specs.declared.path.Field.{Field}
use Rattle.gr_values.specs.declared.path.Path.{Path}
use Rattle.gr_print.specs.declared.out_column.OutColumn.{OutColumn}
use Rattle.gr_print.specs.declared.out_column.OutItem.TheVariants.{At, Score}

-- the name of a record's score
abbrev pub score_name : List ℕ
score_name = codes "_score"

-- the name that stands for all data columns
abbrev pub all_name : List ℕ
all_name = codes "*"

-- a column that shows what stands at a path
abbrev pub path_column : List ℕ → Path → OutColumn
path_column name path = record { name = name; item = At path }

-- the data column of this number, where it is one
abbrev pub data_column : SchemaDef → TableNo → ℕ → ColumnDef → Option OutColumn
data_column schema table n def =
    option_map
    (λ end. path_column def.name (path_from table (record { through = []; end = end })))
    (role_end schema (Field.Column (column_no n)) def.role)

-- those among columns that are counted on from this number
abbrev pub data_columns_from : SchemaDef → TableNo → ℕ → List ColumnDef → List OutColumn
data_columns_from schema table n [] = []
data_columns_from schema table n (def ∷ defs) = option_to_list (data_column schema table n def) ++ data_columns_from schema table (n + 1) defs

-- the data columns of a table, in order of making
abbrev pub data_columns : SchemaDef → TableNo → List OutColumn
data_columns schema table = option_map_or (λ home. data_columns_from schema table 0 home.columns) (table_at schema table) []

-- the columns that a name stands for
abbrev pub columns_named : SchemaDef → TableNo → List ℕ → Result (List OutColumn) Fault
columns_named schema table name =
    if bytes_eq all_name name then Ok (data_columns schema table)
    else (if bytes_eq score_name name then Ok (record { name = name; item = Score } ∷ [])
    else ok_or (option_map (λ path. path_column name path ∷ []) (path_of schema table name)) (fault_named NoSuchColumn name))

-- the columns that names stand for, in their order, or the first name that is none
abbrev pub columns_of : SchemaDef → TableNo → List (List ℕ) → Result (List OutColumn) Fault
columns_of schema table [] = Ok []
columns_of schema table (name ∷ names) =
    result_then (λ first. result_map (λ others. first ++ others) (columns_of schema table names)) (columns_named schema table name)

-- the names where none are given: the id, the key where records have one, and all data columns
abbrev pub default_names : TableDef → List (List ℕ)
default_names home = id_name ∷ (if is_keyed home then key_name ∷ [] else []) ++ all_name ∷ []

-- a text from its first byte that is no white space
abbrev pub from_first : List ℕ → List ℕ
from_first [] = []
from_first (c ∷ cs) = if is_white_space c then from_first cs else c ∷ cs

-- a byte in front of others, unless it is white space and nothing else is there
abbrev pub in_front : ℕ → List ℕ → List ℕ
in_front c cs = if is_white_space c && length cs == 0 then [] else c ∷ cs

-- a text up to its last byte that is no white space
abbrev pub up_to_last : List ℕ → List ℕ
up_to_last [] = []
up_to_last (c ∷ cs) = in_front c (up_to_last cs)

-- a text without the white space at its ends
abbrev pub trimmed : List ℕ → List ℕ
trimmed text = from_first (up_to_last text)

-- whether a byte stands between two items of a list
abbrev pub is_comma : ℕ → Bool
is_comma c = c == byte ","

-- the items that a text lists
abbrev pub listed : List ℕ → List (List ℕ)
listed text = filter (λ item. not (length item == 0)) (map trimmed (slice_split is_comma text))

-- the names that are asked for
abbrev pub names_asked : TableDef → Option (List ℕ) → List (List ℕ)
names_asked home None = default_names home
names_asked home (Some text) = listed text

-- the columns that are printed of a table, or the first name that stands for none
abbrev pub columns : SchemaDef → TableNo → TableDef → Option (List ℕ) → Result (List OutColumn) Fault
columns schema table home text = columns_of schema table (names_asked home text)
