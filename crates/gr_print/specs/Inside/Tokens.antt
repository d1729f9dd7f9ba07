-- The tokens of JSON that a block is written in.
use Rattle.std.specs.Prelude.{ℕ, Option, Some, List, [], ◌∷◌, ◌++◌}
use Rattle.std.specs.Fmt.{decimal}
use Rattle.std.specs.List.{flat_map}
use Rattle.std.specs.Option.{option_and_then, option_map_or}
use Rattle.json.specs.Token.{Token, begin_array, end_array, number, string}
use Rattle.gr_base.specs.declared.numbers.RecordId.{RecordId}
use Rattle.gr_expr.specs.Paths.{end_of, end_table}
use Rattle.gr_expr.specs.Tables.{Records, cell_at, key_at}
use Rattle.gr_print.specs.Block.{Hit, item_type}
use Rattle.gr_print.specs.Shown.{given_of}
use Rattle.gr_print.specs.declared.out_column.OutColumn.{OutColumn}
use Rattle.gr_print.specs.declared.out_column.OutItem.{OutItem}
use Rattle.gr_print.specs.declared.out_column.OutItem.TheVariants.{At, Score}
use Rattle.gr_schema.specs.Schema.{SchemaDef}
use Rattle.gr_values.specs.Defaults.{default_of}
use Rattle.gr_values.specs.Tokens.{empty_token, given_tokens, key_token}
use Rattle.gr_values.specs.declared.data_type.DataType.{DataType}
use Rattle.gr_values.specs.declared.path.Field.{Field}
use Rattle.gr_values.specs.declared.path.Path.{Path}
use Rattle.gr_values.specs.declared.value.Key.{Key}

-- an array of values that take several tokens
abbrev pub array_of : {X : Type 0} → (X → List Token) → List X → List Token
array_of tokens xs = begin_array ∷ (flat_map tokens xs ++ end_array ∷ [])

-- a key, or an empty reference to keys of this type
abbrev pub key_or_empty : DataType → Option Key → Token
key_or_empty of key = option_map_or key_token key (empty_token (Some of))

-- a field of the record at which a path ends
abbrev pub field_tokens : List Records → Option RecordId → Path → Field → List Token
field_tokens tables end path Field.Id = number (decimal (option_map_or (λ end. end.0) end 0)) ∷ []
field_tokens tables end path Field.Key = key_or_empty path.shape.of (option_and_then (key_at tables (end_table path)) end) ∷ []
field_tokens tables end path (Field.Column column) =
    given_tokens (Some path.shape.of)
    (given_of tables path.to (option_map_or (λ cell. cell) (option_and_then (λ end. cell_at tables (end_table path) end column) end) (default_of path.shape)))

-- what stands at a path, read at a record
abbrev pub path_tokens : List Records → RecordId → Path → List Token
path_tokens tables id path = field_tokens tables (end_of tables id path) path path.last

-- what a column shows of a hit
abbrev pub item_tokens : List Records → Hit → OutItem → List Token
item_tokens tables hit (At path) = path_tokens tables hit.0 path
item_tokens tables hit Score = number (decimal hit.1) ∷ []

-- what the columns show of a hit
abbrev pub row_tokens : List Records → List OutColumn → Hit → List Token
row_tokens tables columns hit = array_of (λ column. item_tokens tables hit column.item) columns

-- a column's name and type
abbrev pub column_tokens : SchemaDef → OutColumn → List Token
column_tokens schema column = begin_array ∷ string column.name ∷ string (item_type schema column.item) ∷ end_array ∷ []

-- how many were found, the columns, and the rows that are shown
abbrev pub block_tokens : SchemaDef → List Records → List OutColumn → ℕ → List Hit → List Token
block_tokens schema tables columns found shown =
    begin_array ∷ begin_array ∷ number (decimal found) ∷ end_array
    ∷ (array_of (column_tokens schema) columns ++ (flat_map (row_tokens tables columns) shown ++ end_array ∷ []))
