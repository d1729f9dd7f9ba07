-- Texts whose words stand one space apart.
use Rattle.std.specs.Prelude.{ℕ, suc, ◌≡◌, ◌<◌, ◌≤◌, List, length, slice_index}

-- a piece that has a byte, and one that is not too long for a word
abbrev pub IsSome : List ℕ → Type 0
IsSome piece = 1 ≤ length piece

abbrev pub IsShort : List ℕ → Type 0
IsShort piece = length piece ≤ 4096

-- no two spaces stand beside each other, none is first, and none last
abbrev pub NoDouble : List ℕ → Type 0
NoDouble text = (k : ℕ) → suc k < length text → slice_index text k ≡ 32 → ¬ (slice_index text (suc k) ≡ 32)

abbrev pub FirstOther : List ℕ → Type 0
FirstOther text = (0 < length text) × (¬ (slice_index text 0 ≡ 32))

abbrev pub LastOther : List ℕ → Type 0
LastOther text = (k : ℕ) → suc k ≡ length text → ¬ (slice_index text k ≡ 32)
