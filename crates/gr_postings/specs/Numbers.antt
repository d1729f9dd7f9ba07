-- How numbers and positions stand in bytes, for the crates that keep postings as bytes. A number is written in digits of seven bits, the high ones first; each byte but the last has 128 added.
use Rattle.std.specs.Prelude.{◌≡◌, ℕ, suc, zero, ◌+◌, ◌-◌, ◌*◌, nat_lt, if◌then◌else◌, List, [], ◌∷◌, ◌++◌}

-- the number at the front of the bytes, where this is what the bytes before them have given of it
abbrev pub number_after : ℕ → List ℕ → ℕ
number_after high [] = high
number_after high (b ∷ bs) = if nat_lt b 128 then high * 128 + b else number_after (high * 128 + (b - 128)) bs

-- the number at the front of the bytes
abbrev pub number_at : List ℕ → ℕ
number_at = number_after 0

-- the bytes after the number at the front
abbrev pub after_number : List ℕ → List ℕ
after_number [] = []
after_number (b ∷ bs) = if nat_lt b 128 then bs else after_number bs

-- the bytes after so many numbers
abbrev pub after_numbers : ℕ → List ℕ → List ℕ
after_numbers zero bs = bs
after_numbers (suc n) bs = after_numbers n (after_number bs)

-- so many positions, of which the bytes have the differences from the one before
abbrev pub positions_after : ℕ → ℕ → List ℕ → List ℕ
positions_after last zero bs = []
positions_after last (suc n) bs = (last + number_at bs) ∷ positions_after (last + number_at bs) n (after_number bs)

-- the positions at the front of the bytes: their count, and their differences
abbrev pub positions_at : List ℕ → List ℕ
positions_at bs = positions_after 0 (number_at bs) (after_number bs)

-- the bytes after those positions
abbrev pub after_positions : List ℕ → List ℕ
after_positions bs = after_numbers (number_at bs) (after_number bs)

-- the bytes are a number's, whatever follows them
pub record IsNumber (bytes : List ℕ) (number : ℕ) : Type 0 where
  pub read : (rest : List ℕ) → number_at (bytes ++ rest) ≡ number
  pub left : (rest : List ℕ) → after_number (bytes ++ rest) ≡ rest

-- the bytes are those of positions, whatever follows them
pub record ArePositions (bytes positions : List ℕ) : Type 0 where
  pub read : (rest : List ℕ) → positions_at (bytes ++ rest) ≡ positions
  pub left : (rest : List ℕ) → after_positions (bytes ++ rest) ≡ rest

-- new is old and then a number's bytes
pub record AppendsNumber (old new : List ℕ) (number : ℕ) : Type 0 where
  pub bytes : List ℕ
  pub appended : new ≡ old ++ bytes
  pub coded : IsNumber bytes number

-- new is old and then the bytes of positions
pub record AppendsPositions (old new positions : List ℕ) : Type 0 where
  pub bytes : List ℕ
  pub appended : new ≡ old ++ bytes
  pub coded : ArePositions bytes positions
