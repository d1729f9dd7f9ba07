-- What is so of the table of a turn between any two steps.
use Rattle.std.specs.Prelude.{ℕ, ◌≡◌, ◌+◌, ◌^◌, ◌<◌, ◌≤◌, ◌⊎◌, List, [], ◌∷◌, length, Option, Some}
use mathlib.Core.Option.{Option as Maybe, some, none}
use lib.ListN.{get_elem?}
use Rattle.gr_turn.specs.declared.view.Stage.{Stage}
use Rattle.gr_turn.specs.declared.view.Stage.TheVariants.{Idle, Waits, Serves}
use Rattle.gr_turn.specs.declared.view.View.{View}
use Rattle.gr_turn.specs.Known.{all_shares, times, once_below, StartsWith}

-- a number of each element, added up
abbrev pub total : {A : Type 0} → (A → ℕ) → List A → ℕ
total f [] = 0
total f (x ∷ xs) = f x + total f xs

module _ {T I F : Type 0} (entries : T → List I) (fixed : T → F) (first : F) where
  -- the slot has a value that shows the list and has the fixed part of the first value
  pub record IsHome (log : List I) (homes : List (Maybe (Option T))) : Type 0 where
    pub value : T
    pub there : homes ≡ some (Some value) ∷ []
    pub shows : entries value ≡ log
    pub keeps : fixed value ≡ first

-- the slot is out with the seat that is served
pub record IsOut {T I F : Type 0} (served : ℕ) (server : ℕ → ℕ) (homes : List (Maybe (Option T))) (views : List (View I F)) : Type 0 where
  pub gone : homes ≡ none ∷ []
  pub holder : View I F
  pub sits : get_elem? views (server served) ≡ some holder
  pub serves : holder.stage ≡ Serves served

-- a seat at this stage has this number
abbrev pub HasNumber : Stage → ℕ → Type 0
HasNumber stage number = (stage ≡ Waits number) ⊎ (stage ≡ Serves number)

-- this seat has this number
pub record IsDrawn {I F : Type 0} (number seat : ℕ) (views : List (View I F)) : Type 0 where
  pub holder : View I F
  pub sits : get_elem? views seat ≡ some holder
  pub has : HasNumber holder.stage number

-- what a seat knows is so, and no other seat has its number
pub record IsSeated {T I F : Type 0} (first : F) (log : List I) (ticket served : ℕ) (server : ℕ → ℕ) (homes : List (Maybe (Option T))) (id : ℕ) (v : View I F) : Type 0 where
  pub seen : StartsWith log v.seen
  pub told : StartsWith log v.told
  pub own : (place : ℕ) → 0 < times place v.own → place < length v.seen
  pub fixed : 0 < v.shares → v.fixed ≡ first
  pub spent : v.shares ≡ 0 → (v.own ≡ []) × (v.stage ≡ Idle)
  pub waits : (number : ℕ) → v.stage ≡ Waits number → (served ≤ number) × (number < ticket) × (server number ≡ id)
  pub serves : (number : ℕ) → v.stage ≡ Serves number → (number ≡ served) × (served < ticket) × (server number ≡ id) × (v.seen ≡ log) × (homes ≡ none ∷ [])

-- the words tell the length of the list, the next ticket and the one that is served; each number from the one served up to the next ticket is of one seat;
-- the slot is at home or out; each seat knows what is so; all shares are somewhere; and each place of the list is an own place of one seat, once
pub record Kept {T I F : Type 0} (entries : T → List I) (fixed : T → F) (first : F) (words : List ℕ) (homes : List (Maybe (Option T))) (views : List (View I F)) : Type 0 where
  pub log : List I
  pub ticket : ℕ
  pub served : ℕ
  pub server : ℕ → ℕ
  pub words_are : words ≡ length log ∷ ticket ∷ served ∷ []
  pub short : length log < 2 ^ 64
  pub few : ticket < 2 ^ 64
  pub ordered : served ≤ ticket
  pub drawn : (number : ℕ) → served ≤ number → number < ticket → IsDrawn number (server number) views
  pub slot : IsHome entries fixed first log homes ⊎ IsOut served server homes views
  pub seats : (id : ℕ) (v : View I F) → get_elem? views id ≡ some v → IsSeated first log ticket served server homes id v
  pub shares_are : total (λ v. v.shares) views ≡ all_shares
  pub own_once : (place : ℕ) → total (λ v. times place v.own) views ≡ once_below place (length log)
