-- The groups of a drilldown.
use Rattle.std.specs.Prelude.{ℕ, Bool, false, ◌==◌, ◌&&◌, not, min, List, [], ◌∷◌, map, filter, count_by, Option}
use Rattle.std.specs.Bool.{beq}
use Rattle.std.specs.List.{filter_map, flat_map}
use Rattle.std.specs.Option.{option_and_then, option_map, option_to_list}
use Rattle.std.specs.Ordering.{int_eq}
use Rattle.std.specs.Str.{bytes_eq}
use Rattle.gr_base.specs.declared.numbers.RecordId.{RecordId}
use Rattle.gr_base.specs.declared.numbers.TableNo.{TableNo}
use Rattle.gr_drill.specs.declared.tally.TheConstants.{MOST_COUNT}
use Rattle.gr_expr.specs.Paths.{cell_of_end, referred}
use Rattle.gr_expr.specs.Tables.{Records}
use Rattle.gr_expr.specs.Values.{field_worth}
use Rattle.gr_expr.specs.declared.groups.Group.{Group}
use Rattle.gr_expr.specs.declared.groups.GroupKey.{GroupKey}
use Rattle.gr_expr.specs.declared.typed.Literal.{Literal}
use Rattle.gr_values.specs.declared.path.Field.{Field}
use Rattle.gr_values.specs.declared.path.Path.{Path}
use Rattle.gr_values.specs.declared.value.Cell.{Cell}

-- a value as the key of a group
abbrev pub value_key : Literal → GroupKey
value_key (Literal.Number number) = GroupKey.Number number
value_key (Literal.Text text) = GroupKey.Text text
value_key (Literal.Truth truth) = GroupKey.Truth truth

-- the record that is referred to as the key of a group; an empty or dead reference has none
abbrev pub reference_key : List Records → Option TableNo → RecordId → Option GroupKey
reference_key tables to id = option_and_then (λ table. option_map (GroupKey.Ref table) (referred tables table id)) to

-- the groups in which a cell counts: a list in one for each element, and anything else in its own
abbrev pub cell_keys : List Records → Option TableNo → Cell → List GroupKey
cell_keys tables to (Cell.Bool truth) = GroupKey.Truth truth ∷ []
cell_keys tables to (Cell.Int number) = GroupKey.Number number ∷ []
cell_keys tables to (Cell.Text text) = GroupKey.Text text ∷ []
cell_keys tables to (Cell.Ref id) = option_to_list (reference_key tables to id)
cell_keys tables to (Cell.RefList ids) = filter_map (reference_key tables to) ids
cell_keys tables to (Cell.IntList numbers) = map GroupKey.Number numbers
cell_keys tables to (Cell.TextList texts) = map GroupKey.Text texts

-- the groups in which a field at the end of a path counts: an id and a key by their value, where there is one, and a column by its cell
abbrev pub field_keys : List Records → RecordId → Path → Field → List GroupKey
field_keys tables id path Field.Id = option_to_list (option_map value_key (field_worth tables id path Field.Id))
field_keys tables id path Field.Key = option_to_list (option_map value_key (field_worth tables id path Field.Key))
field_keys tables id path (Field.Column column) = cell_keys tables path.to (cell_of_end tables id path column)

-- the groups in which a record counts
abbrev pub counted_at : List Records → RecordId → Path → List GroupKey
counted_at tables id path = field_keys tables id path path.last

-- the groups in which hits count, one hit after the other
abbrev pub counted : List Records → Path → List (RecordId × ℕ) → List GroupKey
counted tables path hits = flat_map (λ hit. counted_at tables hit.0 path) hits

-- whether two keys are of one group
abbrev pub is_same_group : GroupKey → GroupKey → Bool
is_same_group (GroupKey.Ref table id) (GroupKey.Ref other_table other) = (table.0 == other_table.0) && (id.0 == other.0)
is_same_group (GroupKey.Number number) (GroupKey.Number other) = int_eq number other
is_same_group (GroupKey.Text text) (GroupKey.Text other) = bytes_eq text other
is_same_group (GroupKey.Truth truth) (GroupKey.Truth other) = beq truth other
is_same_group _ _ = false

-- each key once, in order of first appearance
abbrev pub firsts : List GroupKey → List GroupKey
firsts [] = []
firsts (key ∷ keys) = key ∷ filter (λ other. not (is_same_group key other)) (firsts keys)

-- how often a key appears; the count stands still at the highest
abbrev pub count_of : List GroupKey → GroupKey → ℕ
count_of keys key = min (count_by (is_same_group key) keys) MOST_COUNT

-- the group of a key
abbrev pub group_of : List GroupKey → GroupKey → Group
group_of keys key = record { key = key; count = count_of keys key }

-- a group for each key, in order of first appearance
abbrev pub grouped : List GroupKey → List Group
grouped keys = map (group_of keys) (firsts keys)

-- the groups of hits by the value at a path
abbrev pub groups_of : List Records → Path → List (RecordId × ℕ) → List Group
groups_of tables path hits = grouped (counted tables path hits)
