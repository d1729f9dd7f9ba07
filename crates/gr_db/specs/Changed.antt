-- Which records the entries of a journal add, set a cell in, or remove.
use Rattle.std.specs.Prelude.{ℕ, ◌≡◌, ◌≤◌, Option, Some, List, [], ◌∷◌, ◌++◌, map, slice_get, take}
use Rattle.std.specs.List.{Contains}
use Rattle.std.specs.List.Sorted.{IsStrictlyIncreasing}
use Rattle.std.specs.Option.{option_map, option_map_or, option_to_list}
use Rattle.gr_base.specs.declared.numbers.RecordId.{RecordId}
use Rattle.gr_base.specs.declared.numbers.TableNo.{TableNo}
use Rattle.gr_db.specs.Apply.{column_wants, id_if, id_which, own_id, replay, with_blank_column}
use Rattle.gr_db.specs.Db.{Db}
use Rattle.gr_db.specs.Wants.{Setting, all_added, all_wanted, put_wants}
use Rattle.gr_db.specs.declared.entry.Change.{Change}
use Rattle.gr_db.specs.declared.entry.Change.TheVariants.{CreateTable, CreateColumn, Put, Delete, DeleteIf, Merge}
use Rattle.gr_db.specs.declared.entry.Entry.{Entry}
use Rattle.gr_db.specs.declared.want.Added.{Added}
use Rattle.gr_schema.specs.Wishes.{column_of}
use Rattle.gr_values.specs.declared.value.Key.{Key}

-- a record, by its table and its id
abbrev pub Place : Type 0
Place = TableNo × RecordId

-- where a record was added
abbrev pub place_of : Added → Place
place_of new = (new.want.table, new.id)

-- the put's own record, where cells of it are set
abbrev pub own_place : Db → TableNo → Option Key → List Setting → List Place
own_place after table key [] = []
own_place after table key (setting ∷ settings) = (table, own_id after table key) ∷ []

-- the records that a change adds, sets a given cell in, or removes
abbrev pub touched : Db → Change → List Place
touched db (CreateTable wish) = []
touched db (CreateColumn wish) =
    option_map_or
    (λ made. let grown = with_blank_column db made.0 made.1 in map place_of (all_added grown (column_wants db grown made.0 made.1)))
    (column_of db.schema wish)
    []
touched db (Put table key settings) =
    let wants = put_wants db table key settings in
    map place_of (all_added db wants) ++ own_place (all_wanted db wants) table key settings
touched db (Delete table by) = option_to_list (option_map (λ id. (table, id)) (id_which db table by))
touched db (DeleteIf table id condition) = option_to_list (option_map (λ id. (table, id)) (id_if db table id condition))
touched db (Merge table column from to) = []

-- an entry at this place or a later one touches the record
pub record IsTouched (journal : List Entry) (table : TableNo) (from : ℕ) (id : RecordId) : Type 0 where
  pub place : ℕ
  pub late : from ≤ place
  pub entry : Entry
  pub stands : slice_get journal place ≡ Some entry
  pub touches : Contains (touched (replay (take place journal)) entry.change) (table, id)

-- the ids of a table's records that entries from this place on touch, ascending, each once
pub record AreChanged (journal : List Entry) (table : TableNo) (from : ℕ) (ids : List RecordId) : Type 0 where
  pub ascending : IsStrictlyIncreasing (map (λ id. id.0) ids)
  pub sound : (id : RecordId) → Contains ids id → IsTouched journal table from id
  pub complete : (id : RecordId) → IsTouched journal table from id → Contains ids id
