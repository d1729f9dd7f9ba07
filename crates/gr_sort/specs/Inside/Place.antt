-- The place that one more has in a list in order.
use Rattle.std.specs.Prelude.{◌≡◌, ℕ, ◌+◌, ◌-◌, ◌≤◌, false, if◌then◌else◌, List, [], ◌∷◌, length, slice_index_or}
use Rattle.std.specs.Ordering.{is_lt}
use Rattle.std.specs.declared.cmp.Ordering.{Ordering}
use Rattle.gr_sort.specs.Order.{in_order}

-- how many stand before the first that it is less than
abbrev pub place : {X : Type 0} → (X → X → Ordering) → List X → X → ℕ
place cmp [] x = 0
place cmp (y ∷ ys) x = if is_lt (cmp x y) then 0 else 1 + place cmp ys x

-- the last of the first so many, and another one where there are fewer
abbrev pub last_of : {X : Type 0} → ℕ → List X → X → X
last_of most xs other = slice_index_or xs (most - 1) other

-- what is not less than the last of the first so many has its place behind the first so many in order
pub record IsBounded {X : Type 0} (cmp : X → X → Ordering) (most : ℕ) (xs : List X) : Type 0 where
  pub enough : most ≤ length xs
  pub behind : (x : X) → is_lt (cmp x (last_of most xs x)) ≡ false → most ≤ place cmp (in_order cmp xs) x
