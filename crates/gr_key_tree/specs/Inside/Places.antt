-- Where a key stands, or would stand.
use Rattle.std.specs.Prelude.{ℕ, ◌≡◌, ◌≤◌, ◌<◌, ◌+◌, List, ◌∷◌, length, take, drop, Result, Ok, Err}
use Rattle.std.specs.declared.cmp.Ordering.{Ordering}
use Rattle.gr_base.specs.declared.numbers.RecordId.{RecordId}
use Rattle.gr_key_tree.specs.Pairs.{Pair}
use Rattle.gr_key_tree.specs.Inside.Seen.{Part}
use Rattle.gr_key_tree.specs.Inside.Parts.{all_pairs}
use Rattle.gr_key_tree.specs.Inside.Rising.{Below, Above}

module _ (cmp : List ℕ → List ℕ → Ordering) (key : List ℕ) where
  -- the pair at the index has the key, and those around it are before and after it
  pub record IsThere (pairs : List Pair) (index : ℕ) : Type 0 where
    pub within : index < length pairs
    pub id : RecordId
    pub here : drop index pairs ≡ (key, id) ∷ drop (index + 1) pairs
    pub below : Below cmp (λ pair. pair.0) key (take index pairs)
    pub above : Above cmp (λ pair. pair.0) key (drop (index + 1) pairs)

  -- the pairs up to the index are before the key, and the others after it
  pub record IsGap (pairs : List Pair) (index : ℕ) : Type 0 where
    pub within : index ≤ length pairs
    pub below : Below cmp (λ pair. pair.0) key (take index pairs)
    pub above : Above cmp (λ pair. pair.0) key (drop index pairs)

  abbrev pub IsLocated : List Pair → Result ℕ ℕ → Type 0
  IsLocated pairs (Ok index) = IsThere pairs index
  IsLocated pairs (Err index) = IsGap pairs index

  -- only the child at the index can have the key
  pub record IsPlace (children : List Part) (index : ℕ) : Type 0 where
    pub within : index < length children
    pub below : Below cmp (λ pair. pair.0) key (all_pairs (take index children))
    pub above : Above cmp (λ pair. pair.0) key (all_pairs (drop (index + 1) children))
