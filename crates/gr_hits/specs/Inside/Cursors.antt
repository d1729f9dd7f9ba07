-- How far the lists of the terms of a phrase are read.
use Rattle.std.specs.Prelude.{ℕ, ◌≡◌, ◌+◌, ◌≤◌, List, [], length, slice_index, slice_index_or, take}
use Rattle.std.specs.List.{AllByRecursion}
use Rattle.gr_base.specs.declared.numbers.RecordId.{RecordId}
use Rattle.gr_hits.specs.Places.{Place, IsBefore}

-- all of these places come before this one
abbrev pub AllBefore : RecordId → ℕ → List Place → Type 0
AllBefore id position places = AllByRecursion (λ place. IsBefore place (id, position)) places

-- each term has a cursor, and what is behind it comes before the term's position, one further than that of the term before
pub record AreBehind (cursors : List ℕ) (terms : List (List Place)) (id : RecordId) (position : ℕ) : Type 0 where
  pub each : length cursors ≡ length terms
  pub within : (k : ℕ) → slice_index cursors k ≤ length (slice_index_or terms k [])
  pub before : (k : ℕ) → AllBefore id (position + k) (take (slice_index cursors k) (slice_index_or terms k []))
