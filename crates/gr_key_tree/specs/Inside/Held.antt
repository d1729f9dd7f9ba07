-- The ids of the keys that begin with a prefix, read by look-up.
use Rattle.std.specs.Prelude.{ℕ, ◌≡◌, ◌==◌, true, Some, List, [], map, slice_index_or}
use Rattle.std.specs.List.{Contains, starts_with, filter}
use Rattle.std.specs.List.Sorted.{IsStrictlyIncreasing}
use Rattle.gr_key_tree.specs.Inside.Seen.{Part}
use Rattle.gr_key_tree.specs.Pairs.{Pair, lookup}
use Rattle.gr_base.specs.declared.numbers.RecordId.{RecordId}

-- the numbers of the ids of the pairs whose keys begin with the prefix, in their order
unfoldable pub numbers_with : List ℕ → List Pair → List ℕ
numbers_with prefix pairs = map (λ pair. pair.1.0) (filter (λ pair. starts_with ◌==◌ pair.0 prefix) pairs)

-- a key that begins with the prefix has the id of this number
pub record IsHeld (pairs : List Pair) (prefix : List ℕ) (number : ℕ) : Type 0 where
  pub key : List ℕ
  pub begins : starts_with ◌==◌ key prefix ≡ true
  pub has : lookup pairs key ≡ Some (record { 0 = number })

-- the numbers of the ids of all keys that begin with the prefix
pub record AreHeld (pairs : List Pair) (prefix numbers : List ℕ) : Type 0 where
  pub sound : (number : ℕ) → Contains numbers number → IsHeld pairs prefix number
  pub complete : (number : ℕ) → IsHeld pairs prefix number → Contains numbers number

-- no key of the child begins with the prefix
abbrev pub IsSkipped : List ℕ → List Part → ℕ → Type 0
IsSkipped prefix children index = (child : Part) → child ≡ slice_index_or children index child → numbers_with prefix child.node.pairs ≡ []

-- the same numbers in strictly ascending order, as ids
pub record AreInOrder (numbers : List ℕ) (ids : List RecordId) : Type 0 where
  pub ascending : IsStrictlyIncreasing (map (λ id. id.0) ids)
  pub sound : (id : RecordId) → Contains ids id → Contains numbers id.0
  pub complete : (number : ℕ) → Contains numbers number → Contains ids (record { 0 = number })
