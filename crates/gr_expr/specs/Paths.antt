-- Where a path ends, and what stands there.
use Rattle.std.specs.Prelude.{if◌then◌else◌, is_some, List, [], ◌∷◌, Option, Some, None}
use Rattle.std.specs.Option.{option_and_then, option_map_or}
use Rattle.gr_base.specs.declared.numbers.ColumnNo.{ColumnNo}
use Rattle.gr_base.specs.declared.numbers.RecordId.{RecordId}
use Rattle.gr_base.specs.declared.numbers.TableNo.{TableNo}
use Rattle.gr_values.specs.declared.path.Hop.{Hop}
use Rattle.gr_values.specs.declared.path.Path.{Path}
use Rattle.gr_values.specs.declared.value.Cell.{Cell}
use Rattle.gr_values.specs.declared.value.Key.{Key}
use Rattle.gr_values.specs.Defaults.{default_of}
use Rattle.gr_expr.specs.Tables.{Records, cell_at, key_at, record_at}

-- the record that a reference is to; where it is empty, no id of a record, or dead, that of a deleted one, there is none
abbrev pub referred : List Records → TableNo → RecordId → Option RecordId
referred tables table id = if is_some (record_at tables table id) then Some id else None

-- the record that a cell refers to
abbrev pub referred_by : List Records → TableNo → Cell → Option RecordId
referred_by tables table (Cell.Bool truth) = None
referred_by tables table (Cell.Int number) = None
referred_by tables table (Cell.Text text) = None
referred_by tables table (Cell.Ref id) = referred tables table id
referred_by tables table (Cell.RefList ids) = None
referred_by tables table (Cell.IntList numbers) = None
referred_by tables table (Cell.TextList texts) = None

-- where a hop from a record of a table leads
abbrev pub hop_end : List Records → TableNo → RecordId → Hop → Option RecordId
hop_end tables table id hop = option_and_then (referred_by tables hop.to) (cell_at tables table id hop.column)

-- where hops from a record of a table lead, one after the other: none, where a reference on the way is empty or dead
abbrev pub hops_end : List Records → TableNo → List Hop → RecordId → Option RecordId
hops_end tables table [] id = Some id
hops_end tables table (hop ∷ hops) id = option_and_then (hops_end tables hop.to hops) (hop_end tables table id hop)

-- the table to which hops from a table lead
abbrev pub hops_table : TableNo → List Hop → TableNo
hops_table table [] = table
hops_table table (hop ∷ hops) = hops_table hop.to hops

-- the record at which a path's last field is read
abbrev pub end_of : List Records → RecordId → Path → Option RecordId
end_of tables id path = hops_end tables path.table path.through id

-- the table of that record
abbrev pub end_table : Path → TableNo
end_table path = hops_table path.table path.through

-- the key of the record at which a path ends
abbrev pub key_of_end : List Records → RecordId → Path → Option Key
key_of_end tables id path = option_and_then (key_at tables (end_table path)) (end_of tables id path)

-- the cell of that record in a column; through an empty or dead reference a column reads as its default
abbrev pub cell_of_end : List Records → RecordId → Path → ColumnNo → Cell
cell_of_end tables id path column =
    option_map_or (λ cell. cell) (option_and_then (λ end. cell_at tables (end_table path) end column) (end_of tables id path)) (default_of path.shape)
