-- Values by place: a default, and the values as far as they reach.
use Rattle.std.specs.Prelude.{◌≡◌, ◌≢◌, ℕ, List, slice_index_or}

module _ {X : Type 0} where
  -- the value at a place; a place that is not reached has the default
  abbrev pub value_at : X × List X → ℕ → X
  value_at places i = slice_index_or places.1 i places.0

  -- the new values have this one at the place, and at each other place that of the old ones
  pub record SetsPlace (old new : X × List X) (i : ℕ) (value : X) : Type 0 where
    pub default : new.0 ≡ old.0
    pub here : value_at new i ≡ value
    pub elsewhere : (other : ℕ) → other ≢ i → value_at new other ≡ value_at old other
