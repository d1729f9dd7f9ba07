-- Words of truth values.
use Rattle.std.specs.Prelude.{◌<◌, ◌+◌, ◌*◌, ◌↔◌, ℕ, Bool, List, IsBitSet, IsTrue}
use Rattle.gr_columns.specs.declared.places.TheConstants.{BLOCK_CELLS}
use Rattle.gr_columns.specs.Places.{value_at}

-- each bit of the word is the value at its place in the block
abbrev pub IsWord : Bool × List Bool → ℕ → ℕ → Type 0
IsWord truths block word = (place : ℕ) → place < BLOCK_CELLS → (IsBitSet word place ↔ IsTrue (value_at truths (BLOCK_CELLS * block + place)))
