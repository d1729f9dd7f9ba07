-- Positions of a term in a record.
use Rattle.std.specs.Prelude.{ℕ, ◌+◌, ◌≤◌, ◌<◌, ◌^◌, List, [], ◌∷◌, length}
use Rattle.std.specs.List.{AllByRecursion}

-- the numbers are at least this one, and each is above the one before
abbrev pub IsRisingFrom : ℕ → List ℕ → Type 0
IsRisingFrom least [] = Unit {0}
IsRisingFrom least (p ∷ ps) = (least ≤ p) × IsRisingFrom (p + 1) ps

-- each number is above the one before
abbrev pub IsRising : List ℕ → Type 0
IsRising = IsRisingFrom 0

-- positions rise, and they and their count are numbers of 64 bits
pub record AreValid (ps : List ℕ) : Type 0 where
  pub rising : IsRising ps
  pub fits : AllByRecursion (λ p. p < 2 ^ 64) ps
  pub count : length ps < 2 ^ 64
