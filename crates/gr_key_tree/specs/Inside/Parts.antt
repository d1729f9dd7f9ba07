-- What a node holds, and what is true of it.
use Rattle.std.specs.Prelude.{ℕ, ◌≡◌, ◌≤◌, ◌<◌, ◌+◌, List, [], ◌++◌, ◌∷◌, length, ⊤}
use Rattle.std.specs.declared.cmp.Ordering.{Ordering}
use Rattle.gr_base.specs.declared.numbers.RecordId.{RecordId}
use Rattle.gr_key_tree.specs.declared.node.Shape.{Shape}
use Rattle.gr_key_tree.specs.declared.node.Shape.TheVariants.{Leaf, Inner}
use Rattle.gr_key_tree.specs.Pairs.{Pair}
use Rattle.gr_key_tree.specs.Inside.Rising.{Rising}
use Rattle.gr_key_tree.specs.Inside.Seen.{Seen, Part}

-- the key is that of the first pair
pub record IsFirst (key : List ℕ) (pairs : List Pair) : Type 0 where
  pub id : RecordId
  pub rest : List Pair
  pub is : pairs ≡ (key, id) ∷ rest

-- a child one level below this height, cut off at its first key
pub record IsChild (height : ℕ) (cut : List ℕ) (child : Seen) : Type 0 where
  pub level : height ≡ child.height + 1
  pub first : IsFirst cut child.pairs

-- a node as a child
pub record IsPart (node : Seen) (cut : List ℕ) (child : Seen) : Type 0 where
  pub is : child ≡ node
  pub fits : IsChild (node.height + 1) cut child

-- what is seen of a leaf
abbrev pub leaf_of : List Pair → Seen
leaf_of pairs = record { pairs = pairs; height = 0; count = length pairs }

-- the pairs rise, and there are 1 to 32 of them
pub record IsLeaf (cmp : List ℕ → List ℕ → Ordering) (pairs : List Pair) : Type 0 where
  pub rising : Rising cmp (λ pair. pair.0) pairs
  pub some : 0 < length pairs
  pub room : length pairs ≤ 32

-- the pairs of all children, in their order
abbrev pub all_pairs : List Part → List Pair
all_pairs [] = []
all_pairs (child ∷ children) = child.node.pairs ++ all_pairs children

-- all are children of this height
unfoldable pub AreChildren : ℕ → List Part → Type 0
AreChildren height [] = ⊤
AreChildren height (child ∷ children) = IsChild height child.cut child.node × AreChildren height children

-- 1 to 32 children, whose pairs rise from each to the next
pub record IsInner (cmp : List ℕ → List ℕ → Ordering) (height : ℕ) (children : List Part) : Type 0 where
  pub rising : Rising cmp (λ pair. pair.0) (all_pairs children)
  pub each : AreChildren height children
  pub some : 0 < length children
  pub room : length children ≤ 32

-- what is seen of an inner node
abbrev pub inner_of : ℕ → List Part → Seen
inner_of height children = record { pairs = all_pairs children; height = height; count = length children }

module _ {K : Type 0} where
  abbrev pub seen : Shape K → Seen
  seen (Leaf items) = leaf_of items.items
  seen (Inner height children) = inner_of height children.items

  abbrev pub IsNode : (List ℕ → List ℕ → Ordering) → Shape K → Type 0
  IsNode cmp (Leaf items) = IsLeaf cmp items.items
  IsNode cmp (Inner height children) = IsInner cmp height children.items
