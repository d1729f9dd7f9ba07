-- The periods of a list's beginnings.
use Rattle.std.specs.Prelude.{ℕ, ◌≡◌, ◌-◌, ◌<◌, List, take, drop}

-- the first so many elements of a list repeat after this many of them
pub record IsPeriod {X : Type 0} (xs : List X) (count period : ℕ) : Type 0 where
  pub again : take (count - period) (drop period xs) ≡ take (count - period) xs

-- the first so many elements of a list have no shorter period than this
abbrev pub NoShorter : {X : Type 0} → List X → ℕ → ℕ → Type 0
NoShorter xs count shift = (q : ℕ) → 0 < q → q < shift → ¬ IsPeriod xs count q
