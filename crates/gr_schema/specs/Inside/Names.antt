-- Names with their numbers.
use Rattle.std.specs.Prelude.{◌≡◌, ℕ, Option, Some, None, List, refl}
use Rattle.std.specs.Arc.{arc_value}
use Rattle.std.specs.Coded.{Coded, code_by, coded_ℕ}
use Rattle.std.specs.FinMap.{empty, get}
use Rattle.std.specs.List.{position}
use Rattle.std.specs.Option.{option_map}
use Rattle.std.specs.Str.{bytes_eq}
use Rattle.std.specs.declared.sync.Arc.{Arc}
use Rattle.gr_base.specs.Keys.{KeyMap}
use Rattle.gr_base.specs.declared.numbers.RecordId.{RecordId}

-- a number as key tables keep it
abbrev pub record_id : ℕ → RecordId
record_id n = record { 0 = n }

-- a number is stored as it is
abbrev pub record_code : Coded RecordId
record_code = code_by ℕ coded_ℕ (λ id. id.0) record_id (λ _. refl)

-- the map that is shared, or an empty one where there is none
abbrev pub keys_of : {Y : Type 0} → Option (Arc KeyMap Y) → KeyMap
keys_of None = empty
keys_of (Some shared) = arc_value shared

-- each name has the place of the first item of that name
pub record IsNumbered {X : Type 0} (name_of : X → List ℕ) (names : KeyMap) (items : List X) : Type 0 where
  pub found : (name : List ℕ) → get names name ≡ option_map record_id (position (λ item. bytes_eq (name_of item) name) items)
