-- Values that stand in full blocks.
use Rattle.std.specs.Prelude.{◌≡◌, ◌≤◌, ◌/◌, ◌%◌, ◌^◌, ℕ, List, [], ◌∷◌, length, replicate, slice_index_or, slice_set}
use Rattle.std.specs.List.{flat_map}
use Rattle.gr_columns.specs.declared.places.TheConstants.{BLOCK_CELLS}

module _ {X : Type 0} where
  -- the values of some blocks, in order
  abbrev pub values_of : List (List X) → List X
  values_of blocks = flat_map (λ block. block) blocks

  -- each block is full
  abbrev pub AreBlocks : List (List X) → Type 0
  AreBlocks [] = Unit {0}
  AreBlocks (block ∷ blocks) = (length block ≡ BLOCK_CELLS) × AreBlocks blocks

  -- the blank block has the default at each place, each block is full, and there are no more than places have numbers
  pub record ArePlaces (default : X) (blank : List X) (blocks : List (List X)) : Type 0 where
    pub repeats : blank ≡ replicate BLOCK_CELLS default
    pub full : AreBlocks blocks
    pub few : length blocks ≤ 2 ^ 32

  -- the blocks with another value at a place
  abbrev pub changed_at : List (List X) → ℕ → X → List (List X)
  changed_at blocks i value = slice_set blocks (i / BLOCK_CELLS) (slice_set (slice_index_or blocks (i / BLOCK_CELLS) []) (i % BLOCK_CELLS) value)
