-- The tokens of JSON that the block of a drilldown is written in.
use Rattle.std.specs.Prelude.{ℕ, List, [], ◌∷◌, ◌++◌}
use Rattle.std.specs.Fmt.{decimal}
use Rattle.std.specs.List.{flat_map}
use Rattle.json.specs.Token.{Token, begin_array, boolean, end_array, number, string}
use Rattle.gr_drill.specs.Block.{Numbered, id_of, item_type, referred}
use Rattle.gr_drill.specs.declared.drilldown.GroupColumn.{GroupColumn}
use Rattle.gr_drill.specs.declared.drilldown.GroupItem.{GroupItem}
use Rattle.gr_drill.specs.declared.drilldown.GroupItem.TheVariants.{At, Count, Id, Key}
use Rattle.gr_expr.specs.Tables.{Records, key_at}
use Rattle.gr_expr.specs.declared.groups.GroupKey.{GroupKey}
use Rattle.gr_print.specs.Inside.Tokens.{array_of, key_or_empty, path_tokens}
use Rattle.gr_schema.specs.Schema.{SchemaDef}
use Rattle.gr_values.specs.Tokens.{number_token}
use Rattle.gr_values.specs.declared.data_type.DataType.{DataType}

-- what the records of a group have in common
abbrev pub common_token : List Records → DataType → GroupKey → Token
common_token tables of (GroupKey.Ref table id) = key_or_empty of (key_at tables table id)
common_token tables of (GroupKey.Number value) = number_token value
common_token tables of (GroupKey.Text text) = string text
common_token tables of (GroupKey.Truth truth) = boolean truth

-- what a column shows of a group
abbrev pub item_tokens : List Records → DataType → Numbered → GroupItem → List Token
item_tokens tables of group Key = common_token tables of group.1.key ∷ []
item_tokens tables of group Count = number (decimal group.1.count) ∷ []
item_tokens tables of group Id = number (decimal (id_of group.0 group.1.key)) ∷ []
item_tokens tables of group (At path) = path_tokens tables (referred group.1.key) path

-- what the columns show of a group
abbrev pub row_tokens : List Records → DataType → List GroupColumn → Numbered → List Token
row_tokens tables of columns group = array_of (λ column. item_tokens tables of group column.item) columns

-- a column's name and type
abbrev pub column_tokens : SchemaDef → DataType → GroupColumn → List Token
column_tokens schema of column = begin_array ∷ string column.name ∷ string (item_type schema of column.item) ∷ end_array ∷ []

-- how many groups there are, the columns, and the rows that are shown
abbrev pub block_tokens : SchemaDef → List Records → DataType → List GroupColumn → ℕ → List Numbered → List Token
block_tokens schema tables of columns found shown =
    begin_array ∷ begin_array ∷ number (decimal found) ∷ end_array
    ∷ (array_of (column_tokens schema of) columns ++ (flat_map (row_tokens tables of columns) shown ++ end_array ∷ []))
