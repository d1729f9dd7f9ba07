-- Which seats and tables the private steps speak of.
use Rattle.std.specs.Prelude.{◌≡◌, Option}
use Rattle.atomic_table.specs.Seated.{TableId}
use Rattle.atomic_table.specs.declared.shared.Seat.{Seat}
use Rattle.gr_turn.specs.declared.view.View.{View}

-- a table of three words and one slot
abbrev pub IsTable : TableId → Type 0
IsTable table = (table.words ≡ 3) × (table.slots ≡ 1)

module _ {T I F : Type 0} where
  -- the seat is at this table
  abbrev pub IsAt : TableId → Seat (Option T) (View I F) → Type 0
  IsAt table seat = seat.table_id ≡ table

  abbrev pub IsSameSeat : Seat (Option T) (View I F) → Seat (Option T) (View I F) → Type 0
  IsSameSeat old new = (new.table_id ≡ old.table_id) × (new.id ≡ old.id)
