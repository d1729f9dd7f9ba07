-- The bytes of a number before its last one.
use Rattle.std.specs.Prelude.{◌≡◌, ℕ, List, ◌++◌}
use Rattle.gr_postings.specs.Numbers.{number_after, after_number}

-- the bytes give this of a number, and the number ends behind them
pub record IsHigh (bytes : List ℕ) (high : ℕ) : Type 0 where
  pub read : (rest : List ℕ) → number_after 0 (bytes ++ rest) ≡ number_after high rest
  pub left : (rest : List ℕ) → after_number (bytes ++ rest) ≡ after_number rest

-- new is old and then such bytes
pub record AppendsHigh (old new : List ℕ) (high : ℕ) : Type 0 where
  pub bytes : List ℕ
  pub appended : new ≡ old ++ bytes
  pub coded : IsHigh bytes high
