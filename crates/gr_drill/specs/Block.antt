-- The block that a drilldown prints.
use Rattle.std.specs.Prelude.{ℕ, ℤ, pos, ◌+◌, Some, List, [], ◌∷◌, drop, length, map, take, codes}
use Rattle.std.specs.Fmt.{decimal, signed_decimal}
use Rattle.std.specs.Option.{option_map, option_map_or}
use Rattle.std.specs.Ordering.{nat_cmp, ordering_then}
use Rattle.std.specs.declared.cmp.Ordering.{Ordering}
use Rattle.json.specs.Print.{quoted}
use Rattle.gr_base.specs.declared.numbers.RecordId.{RecordId}
use Rattle.gr_drill.specs.Groups.{groups_of}
use Rattle.gr_drill.specs.declared.drilldown.Drilldown.{Drilldown}
use Rattle.gr_drill.specs.declared.drilldown.GroupColumn.{GroupColumn}
use Rattle.gr_drill.specs.declared.drilldown.GroupItem.{GroupItem}
use Rattle.gr_drill.specs.declared.drilldown.GroupItem.TheVariants.{At, Count, Id, Key}
use Rattle.gr_drill.specs.declared.drilldown.GroupSortKey.{GroupSortKey}
use Rattle.gr_expr.specs.Tables.{Records, key_at, record_id}
use Rattle.gr_expr.specs.Values.{Worth, key_worth, path_worth}
use Rattle.gr_expr.specs.declared.groups.Group.{Group}
use Rattle.gr_expr.specs.declared.groups.GroupKey.{GroupKey}
use Rattle.gr_expr.specs.declared.typed.Literal.{Literal}
use Rattle.gr_print.specs.Block.{Hit, path_type, type_text, window}
use Rattle.gr_print.specs.Shown.{path_text}
use Rattle.gr_schema.specs.Schema.{SchemaDef}
use Rattle.gr_sort.specs.Order.{in_order, turned, worth_cmp}
use Rattle.gr_values.specs.Shown.{bracketed, empty_reference, key_text, truth_text}
use Rattle.gr_values.specs.declared.data_type.DataType.{DataType}
use Rattle.gr_values.specs.declared.path.Path.{Path}

-- a group with its number, counted from 1 by first appearance
abbrev pub Numbered : Type 0
Numbered = ℕ × Group

-- groups whose numbers count on from this one
abbrev pub numbered_from : ℕ → List Group → List Numbered
numbered_from number [] = []
numbered_from number (group ∷ groups) = (number, group) ∷ numbered_from (number + 1) groups

-- What a group has

-- the record that a group refers to; others refer to none, and their paths are never asked for
abbrev pub referred : GroupKey → RecordId
referred (GroupKey.Ref table id) = id
referred (GroupKey.Number number) = record_id 0
referred (GroupKey.Text text) = record_id 0
referred (GroupKey.Truth truth) = record_id 0

-- the id of the record that a group refers to, and the number of any other group
abbrev pub id_of : ℕ → GroupKey → ℕ
id_of number (GroupKey.Ref table id) = id.0
id_of number (GroupKey.Number value) = number
id_of number (GroupKey.Text text) = number
id_of number (GroupKey.Truth truth) = number

-- what its records have in common is worth; a reference has the value of its key
abbrev pub common_worth : List Records → GroupKey → Worth
common_worth tables (GroupKey.Ref table id) = option_map key_worth (key_at tables table id)
common_worth tables (GroupKey.Number number) = Some (Literal.Number number)
common_worth tables (GroupKey.Text text) = Some (Literal.Text text)
common_worth tables (GroupKey.Truth truth) = Some (Literal.Truth truth)

-- what is read at a group
abbrev pub item_worth : List Records → Numbered → GroupItem → Worth
item_worth tables group Key = common_worth tables group.1.key
item_worth tables group Count = Some (Literal.Number (pos group.1.count))
item_worth tables group Id = Some (Literal.Number (pos (id_of group.0 group.1.key)))
item_worth tables group (At path) = path_worth tables (referred group.1.key) path

-- The order

-- two groups by one key
abbrev pub key_cmp : List Records → GroupSortKey → Numbered → Numbered → Ordering
key_cmp tables key left right = turned key.descending (worth_cmp (item_worth tables left key.item) (item_worth tables right key.item))

-- two groups by all keys in order, and where none tells them apart by first appearance
abbrev pub group_cmp : List Records → List GroupSortKey → Numbered → Numbered → Ordering
group_cmp tables [] left right = nat_cmp left.0 right.0
group_cmp tables (key ∷ keys) left right = ordering_then (key_cmp tables key left right) (group_cmp tables keys left right)

-- groups in the order of the keys
abbrev pub ordered : List Records → List GroupSortKey → List Numbered → List Numbered
ordered tables keys = in_order (group_cmp tables keys)

-- The block

-- what its records have in common: a reference is shown by its key
abbrev pub common_text : List Records → DataType → GroupKey → List ℕ
common_text tables of (GroupKey.Ref table id) = option_map_or key_text (key_at tables table id) (empty_reference (Some of))
common_text tables of (GroupKey.Number number) = signed_decimal number
common_text tables of (GroupKey.Text text) = quoted text
common_text tables of (GroupKey.Truth truth) = truth_text truth

-- what a column shows of a group whose values have this type
abbrev pub item_text : List Records → DataType → Numbered → GroupItem → List ℕ
item_text tables of group Key = common_text tables of group.1.key
item_text tables of group Count = decimal group.1.count
item_text tables of group Id = decimal (id_of group.0 group.1.key)
item_text tables of group (At path) = path_text tables (referred group.1.key) path

-- a row: what each column shows of a group
abbrev pub row_text : List Records → DataType → List GroupColumn → Numbered → List ℕ
row_text tables of columns group = bracketed (map (λ column. item_text tables of group column.item) columns)

-- the type of what a column shows
abbrev pub item_type : SchemaDef → DataType → GroupItem → List ℕ
item_type schema of Key = type_text of
item_type schema of Count = codes "Int32"
item_type schema of Id = codes "UInt32"
item_type schema of (At path) = path_type schema path

-- a column's name and type
abbrev pub column_text : SchemaDef → DataType → GroupColumn → List ℕ
column_text schema of column = bracketed (quoted column.name ∷ quoted (item_type schema of column.item) ∷ [])

-- how many groups there are, the columns, and the rows that are shown
abbrev pub block : SchemaDef → List Records → DataType → List GroupColumn → ℕ → List Numbered → List ℕ
block schema tables of columns found shown =
    bracketed (bracketed (decimal found ∷ []) ∷ bracketed (map (column_text schema of) columns) ∷ map (row_text tables of columns) shown)

-- the groups of a window, in the order of the keys
abbrev pub shown : List Records → List GroupSortKey → ℤ → ℤ → List Group → List Numbered
shown tables keys offset limit groups =
    let span = window (length groups) offset limit in
    take span.count (drop span.first (ordered tables keys (numbered_from 1 groups)))

-- the groups of hits as they are shown
abbrev pub block_of : SchemaDef → List Records → Drilldown → ℤ → ℤ → List Group → List ℕ
block_of schema tables drilldown offset limit groups =
    block schema tables drilldown.key.shape.of drilldown.columns (length groups) (shown tables drilldown.order offset limit groups)

-- the block of a drilldown over hits
abbrev pub group_block : SchemaDef → List Records → Drilldown → ℤ → ℤ → List Hit → List ℕ
group_block schema tables drilldown offset limit hits = block_of schema tables drilldown offset limit (groups_of tables drilldown.key hits)
