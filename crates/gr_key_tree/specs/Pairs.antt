-- Lists of keys with their ids, read by look-up.
use Rattle.std.specs.Prelude.{ℕ, List, Option, refl}
use Rattle.std.specs.Cmp.Lexicographic.{slice_cmp}
use Rattle.std.specs.Coded.{Coded, code_by, coded_ℕ}
use Rattle.std.specs.FinMap.{find, from_entries}
use Rattle.std.specs.Ordering.{nat_cmp}
use Rattle.gr_base.specs.Keys.{KeyMap}
use Rattle.gr_base.specs.declared.numbers.RecordId.{RecordId}

-- an id is stored as its number
abbrev pub record_code : Coded RecordId
record_code = code_by ℕ coded_ℕ (λ id. id.0) (λ number. record { 0 = number }) (λ _. refl)

-- a key and its id
abbrev pub Pair : Type 0
Pair = List ℕ × RecordId

-- the id of the first pair that has this key
unfoldable pub lookup : List Pair → List ℕ → Option RecordId
lookup pairs key = find (slice_cmp nat_cmp) key pairs

-- the map that answers as the look-up does
abbrev pub map_of : List Pair → KeyMap
map_of = from_entries
