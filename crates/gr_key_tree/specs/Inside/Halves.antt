-- Two nodes in the place of one.
use Rattle.std.specs.Prelude.{ℕ, ◌≡◌, ◌<◌, ◌+◌, List, ◌++◌, ◌∷◌, take, drop, true, false, Option, Some, None, Result, Ok, Err}
use Rattle.std.specs.declared.cmp.Ordering.{Ordering}
use Rattle.std.specs.Ordering.{is_gt}
use Rattle.gr_base.specs.declared.numbers.RecordId.{RecordId}
use Rattle.gr_key_tree.specs.declared.halves.Halves.{Halves}
use Rattle.gr_key_tree.specs.declared.halves.Parted.{Parted}
use Rattle.gr_key_tree.specs.Pairs.{Pair}
use Rattle.gr_key_tree.specs.Inside.Changes.{Adds}
use Rattle.gr_key_tree.specs.Inside.Parts.{IsChild}
use Rattle.gr_key_tree.specs.Inside.Rising.{Rising}
use Rattle.gr_key_tree.specs.Inside.Seen.{Seen, Part}

-- the key, where it is before the cut
abbrev pub IsLowerCut : (List ℕ → List ℕ → Ordering) → List ℕ → List ℕ → Option (List ℕ) → Type 0
IsLowerCut cmp cut key None = is_gt (cmp cut key) ≡ false
IsLowerCut cmp cut key (Some lower) = (is_gt (cmp cut key) ≡ true) × (lower ≡ key)

-- a node of this height with these pairs
pub record IsOver (height : ℕ) (pairs : List Pair) (node : Seen) : Type 0 where
  pub height_is : node.height ≡ height
  pub pairs_are : node.pairs ≡ pairs

module _ {K : Type 0} where
  -- the pairs of both halves, in their order
  abbrev pub both_pairs : Halves K → List Pair
  both_pairs halves = halves.lower.node.pairs ++ halves.upper.node.pairs

  -- both halves are children of this height
  pub record AreHalves (height : ℕ) (halves : Halves K) : Type 0 where
    pub lower : IsChild height halves.lower.cut halves.lower.node
    pub upper : IsChild height halves.upper.cut halves.upper.node

  -- a node parted in the middle
  pub record IsHalved (cmp : List ℕ → List ℕ → Ordering) (node : Seen) (halves : Halves K) : Type 0 where
    pub fit : AreHalves (node.height + 1) halves
    pub whole : node.pairs ≡ both_pairs halves
    pub rising : Rising cmp (λ pair. pair.0) node.pairs
    pub lower_room : halves.lower.node.count < 32
    pub upper_room : halves.upper.node.count < 32

  -- a node parted in the middle, with what finds or adds a key in it
  pub record IsParted (cmp : List ℕ → List ℕ → Ordering) (node : Seen) (key : List ℕ) (id : RecordId) (parted : Parted K) : Type 0 where
    pub fit : AreHalves (node.height + 1) parted.halves
    pub rising : Rising cmp (λ pair. pair.0) (both_pairs parted.halves)
    pub adds : Adds cmp node.pairs key id (both_pairs parted.halves) parted.found

  -- two children in the place of one; for want of memory the same children
  abbrev pub IsReplaced : {U E : Type 0} → List Part → ℕ → Halves K → List Part → Result U E → Type 0
  IsReplaced old index halves new (Ok _) = new ≡ take index old ++ halves.lower ∷ halves.upper ∷ drop (index + 1) old
  IsReplaced old index halves new (Err _) = new ≡ old
