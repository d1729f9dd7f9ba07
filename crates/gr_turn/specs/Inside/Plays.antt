-- What each step tells its seat: of the step, the seat before, the number found and the seat after.
use Rattle.std.specs.Prelude.{ℕ, ◌≡◌, ◌≢◌, ◌≤◌, ◌<◌, ◌^◌, List, ◌∷◌, length, Option, Some}
use mathlib.Core.Option.{some}
use Rattle.atomic_table.specs.Table.{Me, Step}
use Rattle.gr_turn.specs.declared.view.Stage.TheVariants.{Waits}
use Rattle.gr_turn.specs.declared.view.View.{View}
use Rattle.gr_turn.specs.Known.{StartsWith, times}
use Rattle.gr_turn.specs.Inside.Views.{waiting, serving, raised, idle}

module _ {T I F : Type 0} where
  -- the number is drawn where the ticket was as expected, and else nothing happened
  pub record Drew (step : Step (Option T)) (m : Me (Option T) (View I F)) (found : ℕ) (w : Me (Option T) (View I F)) : Type 0 where
    pub drawn : found ≡ step.first → w ≡ (waiting step.first m.0, m.1)
    pub missed : found ≢ step.first → w ≡ m

  -- the seat is served: the slot is out with it, and the list starts with what it has seen
  pub record IsServed (entries : T → List I) (fixed : T → F) (number : ℕ) (m : Me (Option T) (View I F)) (w : Me (Option T) (View I F)) : Type 0 where
    pub value : T
    pub is : w ≡ (serving number (entries value) m.0, (0, Some value) ∷ m.1)
    pub keeps : fixed value ≡ m.0.fixed
    pub seen : StartsWith (entries value) m.0.seen
    pub short : length (entries value) < 2 ^ 64
    pub own : (place : ℕ) → 0 < times place m.0.own → place < length m.0.seen

  -- a seat with a number is served where the number is, and else nothing happened
  pub record Looked (entries : T → List I) (fixed : T → F) (step : Step (Option T)) (m : Me (Option T) (View I F)) (found : ℕ) (w : Me (Option T) (View I F)) : Type 0 where
    pub served : m.0.stage ≡ Waits found → IsServed entries fixed found m w
    pub not_yet : (number : ℕ) → m.0.stage ≡ Waits number → found ≢ number → w ≡ m

  -- the value's list is the list, and its last place is the seat's own
  abbrev pub Raised : (T → List I) → Step (Option T) → Me (Option T) (View I F) → ℕ → Me (Option T) (View I F) → Type 0
  Raised entries step m found w = (value : T) → step.said ≡ some (Some value) → w ≡ (raised (entries value) m.0, m.1)

  -- the seat has no number, and the slot that it took last is at home
  abbrev pub Called : Step (Option T) → Me (Option T) (View I F) → ℕ → Me (Option T) (View I F) → Type 0
  Called step m found w = (held : ℕ × Option T) (more : List (ℕ × Option T)) → m.1 ≡ held ∷ more → w ≡ (idle m.0, more)

  -- what the seat has seen starts with what it was told, and no place is its own twice
  pub record Compared (step : Step (Option T)) (m : Me (Option T) (View I F)) (found : ℕ) (w : Me (Option T) (View I F)) : Type 0 where
    pub same : w ≡ m
    pub starts : length m.0.told ≤ length m.0.seen → StartsWith m.0.seen m.0.told
    pub once : (place : ℕ) → times place m.0.own ≤ 1
