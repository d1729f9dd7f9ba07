-- The truth values that stand in words.
use Rattle.std.specs.Prelude.{◌==◌, ℕ, Bool, List, map}
use Rattle.std.specs.Int.{bit_at}
use Rattle.std.specs.List.{range_with_len}
use Rattle.gr_columns.specs.declared.places.TheConstants.{BLOCK_CELLS}

-- the values of a word, from its lowest bit on
abbrev pub bits_of : ℕ → List Bool
bits_of word = map (λ place. bit_at word place == 1) (range_with_len 0 BLOCK_CELLS)
