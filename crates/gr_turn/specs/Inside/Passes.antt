-- What a pass shows of its seat.
use Rattle.std.specs.Prelude.{ℕ, ◌≡◌, ◌<◌, Bool, true, false, List, [], ◌∷◌, Option, None}
use Rattle.atomic_table.specs.Table.{Me}
use Rattle.atomic_table.specs.Seated.{TableId}
use Rattle.gr_turn.specs.declared.view.Stage.{Stage}
use Rattle.gr_turn.specs.declared.view.Stage.TheVariants.{Idle, Waits, Serves}
use Rattle.gr_turn.specs.declared.view.View.{View}
use Rattle.gr_turn.specs.Known.{Known}

-- whether a seat at this stage holds the turn
abbrev pub is_serving : Stage → Bool
is_serving Idle = false
is_serving (Waits number) = false
is_serving (Serves number) = true

-- between calls a seat has no number, or is served and has emptied the slot
abbrev pub IsSettled : {T : Type 0} → Stage → List (ℕ × Option T) → Type 0
IsSettled Idle held = held ≡ []
IsSettled (Waits number) held = ⊥
IsSettled (Serves number) held = held ≡ (0, None) ∷ []

module _ {T I F : Type 0} where
  abbrev pub known_of : TableId → Me (Option T) (View I F) → Known I F
  known_of table m = record {
    turn = record { table = table; fixed = m.0.fixed };
    seen = m.0.seen;
    own = m.0.own;
    shares = m.0.shares;
    holds = is_serving m.0.stage;
  }

  -- a pass is a seat between calls that has some share
  pub record IsPass (m : Me (Option T) (View I F)) : Type 0 where
    pub settled : IsSettled m.0.stage m.1
    pub some_share : 0 < m.0.shares
