-- Keys of records: a finite map from byte strings to ids, and the ids that a prefix finds.
use Rattle.std.specs.Prelude.{ℕ, ◌≡◌, ◌==◌, true, Some, List, map}
use Rattle.std.specs.Cmp.Lexicographic.{slice_cmp}
use Rattle.std.specs.FinMap.{FinMap, get}
use Rattle.std.specs.List.{Contains, starts_with}
use Rattle.std.specs.List.Sorted.{IsStrictlyIncreasing}
use Rattle.std.specs.Ordering.{nat_cmp}
use Rattle.gr_base.specs.declared.numbers.RecordId.{RecordId}

-- from keys, in the order of their bytes, to ids
abbrev pub KeyMap : Type 0
KeyMap = FinMap (slice_cmp nat_cmp) RecordId

-- a key that begins with the prefix has this id
pub record IsFound (keys : KeyMap) (prefix : List ℕ) (id : RecordId) : Type 0 where
  pub key : List ℕ
  pub begins : starts_with ◌==◌ key prefix ≡ true
  pub has : get keys key ≡ Some id

-- the ids of all keys that begin with the prefix, each once, in ascending order
pub record AreFound (keys : KeyMap) (prefix : List ℕ) (ids : List RecordId) : Type 0 where
  pub ascending : IsStrictlyIncreasing (map (λ id. id.0) ids)
  pub sound : (id : RecordId) → Contains ids id → IsFound keys prefix id
  pub complete : (id : RecordId) → IsFound keys prefix id → Contains ids id
