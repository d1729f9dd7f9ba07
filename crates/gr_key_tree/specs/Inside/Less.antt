-- A node without a key.
use Rattle.std.specs.Prelude.{ℕ, ◌≡◌, List, [], Option, Some, None}
use Rattle.std.specs.declared.cmp.Ordering.{Ordering}
use Rattle.gr_key_tree.specs.Inside.Changes.{Removes}
use Rattle.gr_key_tree.specs.Inside.Seen.{Seen}

-- a node of the same height without the pair of a key, or nothing where no pair is left
abbrev pub IsLess : (List ℕ → List ℕ → Ordering) → Seen → List ℕ → Option Seen → Type 0
IsLess cmp old key None = Removes cmp old.pairs key []
IsLess cmp old key (Some new) = Removes cmp old.pairs key new.pairs × (new.height ≡ old.height)
