-- What a drilldown asks for.
use Rattle.std.specs.Prelude.{ℕ, Bool, false, if◌then◌else◌, Option, Some, None, unwrap_or, Result, Ok, Err, List, [], ◌∷◌, ◌++◌, map, codes}
use Rattle.std.specs.Option.{ok_or, option_and_then, option_map, option_map_or, option_or}
use Rattle.std.specs.Str.{bytes_eq}
use Rattle.gr_base.specs.Failure.{result_map, result_then}
use Rattle.gr_base.specs.Fault.{fault_named}
use Rattle.gr_base.specs.declared.fault.Fault.{Fault}
use Rattle.gr_base.specs.declared.fault.FaultKind.TheVariants.{BadSortKey, NoSuchColumn}
use Rattle.gr_base.specs.declared.numbers.TableNo.{TableNo}
use Rattle.gr_drill.specs.declared.drilldown.Drilldown.{Drilldown}
use Rattle.gr_drill.specs.declared.drilldown.GroupColumn.{GroupColumn}
use Rattle.gr_drill.specs.declared.drilldown.GroupItem.{GroupItem}
use Rattle.gr_drill.specs.declared.drilldown.GroupItem.TheVariants.{At, Count, Id, Key}
use Rattle.gr_drill.specs.declared.drilldown.GroupSortKey.{GroupSortKey}
use Rattle.gr_print.specs.Columns.{all_name, data_columns, listed}
use Rattle.gr_print.specs.declared.out_column.OutColumn.{OutColumn}
use Rattle.gr_print.specs.declared.out_column.OutItem.{OutItem}
use Rattle.gr_schema.specs.Paths.{path_of}
use Rattle.gr_schema.specs.Schema.{SchemaDef}
use Rattle.gr_schema.specs.Words.{id_name, key_name}
use Rattle.gr_sort.specs.Keys.{is_descending, unsigned}
use Rattle.gr_values.specs.declared.path.Path.{Path}

-- one element
abbrev pub alone : {X : Type 0} → X → List X
alone x = x ∷ []

-- lists that are made of elements, one after the other, or the first fault
abbrev pub gathered : {X Y : Type 0} → (X → Result (List Y) Fault) → List X → Result (List Y) Fault
gathered make [] = Ok []
gathered make (x ∷ xs) = result_then (λ first. result_map (λ others. first ++ others) (gathered make xs)) (make x)

-- the name of a group's count
abbrev pub count_name : List ℕ
count_name = codes "_nsubrecs"

-- What names stand for

-- what every group has under a name
abbrev pub plain_item : List ℕ → Option GroupItem
plain_item name =
    if bytes_eq key_name name then Some Key
    else (if bytes_eq count_name name then Some Count
    else (if bytes_eq id_name name then Some Id else None))

-- the path that a name writes from the table that groups refer to
abbrev pub path_at : SchemaDef → Option TableNo → List ℕ → Option Path
path_at schema to name = option_and_then (λ table. path_of schema table name) to

-- what a name stands for in groups that refer to records of this table, or to none
abbrev pub item_named : SchemaDef → Option TableNo → List ℕ → Result GroupItem Fault
item_named schema to name = ok_or (option_or (plain_item name) (option_map At (path_at schema to name))) (fault_named NoSuchColumn name)

-- Columns

-- a column of records as one of groups: its path, or for the score the count
abbrev pub shown_at : OutItem → GroupItem
shown_at (OutItem.At path) = At path
shown_at OutItem.Score = Count

-- the same with its name
abbrev pub column_at : OutColumn → GroupColumn
column_at column = record { name = column.name; item = shown_at column.item }

-- the data columns of the table that groups refer to
abbrev pub all_columns : SchemaDef → Option TableNo → List GroupColumn
all_columns schema to = option_map_or (λ table. map column_at (data_columns schema table)) to []

-- a column under a name
abbrev pub column_under : List ℕ → GroupItem → GroupColumn
column_under name item = record { name = name; item = item }

-- the columns that a name stands for
abbrev pub columns_named : SchemaDef → Option TableNo → List ℕ → Result (List GroupColumn) Fault
columns_named schema to name =
    if bytes_eq all_name name then Ok (all_columns schema to) else result_map (λ item. alone (column_under name item)) (item_named schema to name)

-- the columns that names stand for, in their order, or the first name that is none
abbrev pub columns_of : SchemaDef → Option TableNo → List (List ℕ) → Result (List GroupColumn) Fault
columns_of schema to = gathered (columns_named schema to)

-- the columns where none are given
abbrev pub default_columns : List ℕ
default_columns = codes "_key, _nsubrecs"

-- the columns that a text asks for
abbrev pub columns_shown : SchemaDef → Option TableNo → Option (List ℕ) → Result (List GroupColumn) Fault
columns_shown schema to text = columns_of schema to (listed (unwrap_or text default_columns))

-- Sort keys

-- whether a list is shown
abbrev pub is_list : GroupItem → Bool
is_list Key = false
is_list Count = false
is_list Id = false
is_list (At path) = path.shape.list

-- one value is taken; lists have no order
abbrev pub single : List ℕ → GroupItem → Result GroupItem Fault
single name item = if is_list item then Err (fault_named BadSortKey name) else Ok item

-- the value that a name stands for
abbrev pub single_item : SchemaDef → Option TableNo → List ℕ → Result GroupItem Fault
single_item schema to name = result_then (single name) (item_named schema to name)

-- a key that goes by this
abbrev pub key_by : Bool → GroupItem → GroupSortKey
key_by descending item = record { item = item; descending = descending }

-- the key that a text writes
abbrev pub sort_key : SchemaDef → Option TableNo → List ℕ → Result GroupSortKey Fault
sort_key schema to text = result_map (key_by (is_descending text)) (single_item schema to (unsigned text))

-- the keys that texts write, in their order, or the first fault
abbrev pub sort_keys : SchemaDef → Option TableNo → List (List ℕ) → Result (List GroupSortKey) Fault
sort_keys schema to = gathered (λ text. result_map alone (sort_key schema to text))

-- the keys that a text asks for, where it is given
abbrev pub order_of : SchemaDef → Option TableNo → Option (List ℕ) → Result (List GroupSortKey) Fault
order_of schema to text = sort_keys schema to (listed (unwrap_or text []))

-- Drilldowns

-- a drilldown by this path
abbrev pub drilldown_by : Path → List GroupColumn → List GroupSortKey → Drilldown
drilldown_by key columns order = record { key = key; columns = columns; order = order }

-- the drilldown by a key, or the first fault: of the key, of its columns, of its order
abbrev pub drilldown_of : SchemaDef → TableNo → Option (List ℕ) → Option (List ℕ) → List ℕ → Result Drilldown Fault
drilldown_of schema table columns order key =
    result_then
    (λ path. result_then (λ shown. result_map (drilldown_by path shown) (order_of schema path.to order)) (columns_shown schema path.to columns))
    (ok_or (path_of schema table key) (fault_named NoSuchColumn key))

-- the drilldowns by keys, in their order, or the first fault
abbrev pub drilldowns_of : SchemaDef → TableNo → Option (List ℕ) → Option (List ℕ) → List (List ℕ) → Result (List Drilldown) Fault
drilldowns_of schema table columns order = gathered (λ key. result_map alone (drilldown_of schema table columns order key))

-- the drilldowns by the keys that a text lists
abbrev pub drilldowns : SchemaDef → TableNo → List ℕ → Option (List ℕ) → Option (List ℕ) → Result (List Drilldown) Fault
drilldowns schema table keys columns order = drilldowns_of schema table columns order (listed keys)
