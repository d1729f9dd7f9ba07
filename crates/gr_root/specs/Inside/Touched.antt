-- The records that entries touched, by their numbers.
use Rattle.std.specs.Prelude.{ℕ, ◌==◌, ◌↔◌, List, filter, map}
use Rattle.std.specs.List.{Contains}
use Rattle.std.specs.List.Sorted.{IsStrictlyIncreasing}
use Rattle.gr_base.specs.declared.numbers.TableNo.{TableNo}
use Rattle.gr_db.specs.Changed.{Place}

-- the numbers of those records that are of a table
abbrev pub numbers_in : TableNo → List Place → List ℕ
numbers_in table places = map (λ place. place.1.0) (filter (λ place. place.0.0 == table.0) places)

-- these numbers, ascending and each once
pub record AreOnce (numbers once : List ℕ) : Type 0 where
  pub ascending : IsStrictlyIncreasing once
  pub sound : (n : ℕ) → Contains once n → Contains numbers n
  pub complete : (n : ℕ) → Contains numbers n → Contains once n
