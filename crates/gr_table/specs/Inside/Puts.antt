-- What is kept where a record is added or deleted.
use Rattle.std.specs.Prelude.{◌≡◌, ◌+◌, Option, Some, None, List, length}
use Rattle.std.specs.FinMap.{insert, remove}
use Rattle.gr_base.specs.Keys.{KeyMap}
use Rattle.gr_base.specs.declared.numbers.RecordId.{RecordId}
use Rattle.gr_columns.specs.Places.{SetsPlace}
use Rattle.gr_db.specs.Db.{with_record}
use Rattle.gr_expr.specs.Tables.{record_id}
use Rattle.gr_table.specs.Inside.Bytes.{key_bytes}
use Rattle.gr_table.specs.Table.{TableOf}
use Rattle.gr_values.specs.declared.value.Key.{Key}

-- the key stands at the id and leads there; without a key nothing changes
abbrev pub PutsKey : Option Key × List (Option Key) → KeyMap → Option Key × List (Option Key) → KeyMap → Option Key → RecordId → Type 0
PutsKey keys tree new_keys new_tree None id = (new_keys ≡ keys) × (new_tree ≡ tree)
PutsKey keys tree new_keys new_tree (Some key) id = SetsPlace keys new_keys id.0 (Some key) × (new_tree ≡ insert tree (key_bytes key) id)

-- the record goes last with the next id
pub record AddsRecord (old new : TableOf) (key : Option Key) (id : RecordId) : Type 0 where
  pub next : id ≡ record_id (length old.records + 1)
  pub last : new ≡ record old { records = with_record old.shapes key old.records }

-- the map has all but the key; without a key nothing changes
abbrev pub LosesKey : KeyMap → KeyMap → Option Key → Type 0
LosesKey tree new_tree None = new_tree ≡ tree
LosesKey tree new_tree (Some key) = new_tree ≡ remove tree (key_bytes key)
