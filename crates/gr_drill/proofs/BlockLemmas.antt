-- What the tokens of a block print.
use Rattle.std.proofs.Common.{◌≡◌, ℕ, List, [], ◌∷◌, ◌++◌, append_assoc, ap, subst}
use Rattle.std.specs.Fmt.{decimal}
use Rattle.std.specs.List.{flat_map}
use Rattle.json.specs.Print.{print, quoted}
use Rattle.json.specs.Token.{Token, begin_array, end_array, number, string}
use Rattle.gr_drill.specs.Block.{Numbered, block, column_text, common_text, id_of, item_text, item_type, referred, row_text}
use Rattle.gr_drill.specs.Inside.Tokens.{block_tokens, column_tokens, common_token, item_tokens, row_tokens}
use Rattle.gr_drill.specs.declared.drilldown.GroupColumn.{GroupColumn}
use Rattle.gr_drill.specs.declared.drilldown.GroupItem.{GroupItem}
use Rattle.gr_drill.specs.declared.drilldown.GroupItem.TheVariants.{At, Count, Id, Key}
use Rattle.gr_expr.specs.Tables.{Records, key_at}
use Rattle.gr_expr.specs.declared.groups.GroupKey.{GroupKey}
use Rattle.gr_print.specs.Inside.Tokens.{array_of}
use Rattle.gr_print.proofs.BlockLemmas.{Shows-count, Shows-field, Shows-key_or_empty, Shows-number, Shows-string, Shows-truth}
use Rattle.gr_print.proofs.PrintLemmas.{Shows, ShowsEach-map, ShowsEach-none, ShowsEach-one, Shows-array, Shows-array_of, print-Shows}
use Rattle.gr_schema.specs.Schema.{SchemaDef}
use Rattle.gr_values.specs.declared.data_type.DataType.{DataType}

Shows-common : (tables : List Records) (of : DataType) (key : GroupKey) → Shows (common_token tables of key ∷ []) (common_text tables of key)
Shows-common tables of (GroupKey.Ref table id) = Shows-key_or_empty of (key_at tables table id)
Shows-common tables of (GroupKey.Number value) = Shows-number value
Shows-common tables of (GroupKey.Text text) = Shows-string text
Shows-common tables of (GroupKey.Truth truth) = Shows-truth truth

Shows-item : (tables : List Records) (of : DataType) (group : Numbered) (item : GroupItem) → Shows (item_tokens tables of group item) (item_text tables of group item)
Shows-item tables of group Key = Shows-common tables of group.1.key
Shows-item tables of group Count = Shows-count group.1.count
Shows-item tables of group Id = Shows-count (id_of group.0 group.1.key)
Shows-item tables of group (At path) = Shows-field tables (referred group.1.key) path path.last

Shows-row : (tables : List Records) (of : DataType) (columns : List GroupColumn) (group : Numbered) → Shows (row_tokens tables of columns group) (row_text tables of columns group)
Shows-row tables of columns group =
    Shows-array_of (λ column. item_tokens tables of group column.item) (λ column. item_text tables of group column.item) (λ column. Shows-item tables of group column.item) columns

Shows-column : (schema : SchemaDef) (of : DataType) (column : GroupColumn) → Shows (column_tokens schema of column) (column_text schema of column)
Shows-column schema of column =
    Shows-array (string column.name ∷ string (item_type schema of column.item) ∷ []) (quoted column.name ∷ quoted (item_type schema of column.item) ∷ [])
    (ShowsEach-one (string column.name ∷ []) (string (item_type schema of column.item) ∷ []) _ _ (Shows-string column.name)
    (ShowsEach-one (string (item_type schema of column.item) ∷ []) [] _ _ (Shows-string (item_type schema of column.item)) ShowsEach-none))

-- the parts of a block
Shows-block : (schema : SchemaDef) (tables : List Records) (of : DataType) (columns : List GroupColumn) (found : ℕ) (shown : List Numbered)
    → Shows (block_tokens schema tables of columns found shown) (block schema tables of columns found shown)
Shows-block schema tables of columns found shown =
    let head : List Token = begin_array ∷ number (decimal found) ∷ end_array ∷ [] in
    let names : List Token = array_of (column_tokens schema of) columns in
    let rows : List Token = flat_map (row_tokens tables of columns) shown in
    let all = Shows-array (head ++ (names ++ rows)) _
    (ShowsEach-one head (names ++ rows) _ _
    (Shows-array (number (decimal found) ∷ []) (decimal found ∷ []) (ShowsEach-one (number (decimal found) ∷ []) [] _ _ (Shows-count found) ShowsEach-none))
    (ShowsEach-one names rows _ _ (Shows-array_of (column_tokens schema of) (column_text schema of) (Shows-column schema of) columns)
    (ShowsEach-map (row_tokens tables of columns) (row_text tables of columns) (Shows-row tables of columns) shown))) in
    subst (λ ts. Shows ts (block schema tables of columns found shown)) (ap (λ ts. begin_array ∷ (head ++ ts)) (append_assoc names rows (end_array ∷ []))) all

-- a block is printed
pub print-block_tokens : (schema : SchemaDef) (tables : List Records) (of : DataType) (columns : List GroupColumn) (found : ℕ) (shown : List Numbered)
    → print (block_tokens schema tables of columns found shown) ≡ block schema tables of columns found shown
print-block_tokens schema tables of columns found shown = print-Shows _ _ (Shows-block schema tables of columns found shown)
