-- Tables of which one stands apart while it is changed.
use Rattle.std.specs.Prelude.{ℕ, ◌≡◌, ◌<◌, Option, Some, None, List, length, slice_get, slice_set}
use Rattle.gr_root.specs.declared.working.Apart.{Apart}
use Rattle.gr_table.specs.Table.{TableOf}

-- the tables with the one that stands apart in its place
abbrev pub with_apart : Option Apart → List TableOf → List TableOf
with_apart None kept = kept
with_apart (Some apart) kept = slice_set kept apart.at.0 apart.table

-- the one that stands apart has a place
abbrev pub IsWithin : Option Apart → List TableOf → Type 0
IsWithin None kept = Unit {0}
IsWithin (Some apart) kept = apart.at.0 < length kept

-- a table was taken out; whatever is put in its place, the others are as they were
pub record IsTaken (old new : List TableOf) (n : ℕ) (table : TableOf) : Type 0 where
  pub was : slice_get old n ≡ Some table
  pub long : length new ≡ length old
  pub others : (other : TableOf) → slice_set new n other ≡ slice_set old n other
