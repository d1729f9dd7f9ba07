-- What a mask over a few values says, and the least and greatest of them.
use Rattle.std.specs.Prelude.{ℕ, ℤ, ◌≡◌, ◌<◌, ◌^◌, ◌≤ℤ◌, ◌↔◌, ◌&&◌, Bool, IsTrue, IsBitSet, Some, List, length, slice_get, All, Contains}
use Rattle.std.specs.Ordering.{int_cmp, nat_cmp}
use Rattle.gr_base.specs.Compare.{is_met}
use Rattle.gr_base.specs.declared.compare.Cmp.{Cmp}
use Rattle.gr_base.specs.declared.compare.Cmp.TheVariants.{Le}

-- bit i of the mask says whether value i passes the test, and the bits above are 0
pub record IsMask {V : Type 0} (passes : V → Bool) (values : List V) (mask : ℕ) : Type 0 where
  pub bits : (place : ℕ) (value : V) → slice_get values place ≡ Some value → (IsBitSet mask place ↔ IsTrue (passes value))
  pub higher : mask < 2 ^ length values

-- a signed value compared with another
abbrev pub compares_signed : Cmp → ℤ → ℤ → Bool
compares_signed cmp against value = is_met cmp (int_cmp value against)

-- an unsigned value compared with another
abbrev pub compares_unsigned : Cmp → ℕ → ℕ → Bool
compares_unsigned cmp against value = is_met cmp (nat_cmp value against)

-- a signed value between two ends, both included
abbrev pub is_between : ℤ → ℤ → ℤ → Bool
is_between low high value = is_met Le (int_cmp low value) && is_met Le (int_cmp value high)

-- two values stand among some, and no other is below the first or above the second
pub record AreEnds (values : List ℤ) (least greatest : ℤ) : Type 0 where
  pub least_among : Contains values least
  pub greatest_among : Contains values greatest
  pub within : All (λ value. (least ≤ℤ value) × (value ≤ℤ greatest)) values
