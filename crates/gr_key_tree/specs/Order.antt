-- The order in which a table holds its keys.
use Rattle.std.specs.Prelude.{ℕ, ◌≡◌, ◌==◌, true, false, List, ◌∷◌}
use Rattle.std.specs.Cmp.Lexicographic.{slice_cmp}
use Rattle.std.specs.List.{starts_with}
use Rattle.std.specs.Ordering.{nat_cmp, is_lt, is_gt}
use Rattle.std.specs.declared.cmp.Ordering.{Ordering}

-- by the number that is kept beside a key, and then by the key's bytes
unfoldable pub key_cmp : (List ℕ → ℕ) → List ℕ → List ℕ → Ordering
key_cmp state_of left right = slice_cmp nat_cmp (state_of left ∷ left) (state_of right ∷ right)

module _ (state_of : List ℕ → ℕ) where
  -- no key before the cut begins with the prefix
  pub record IsNoneBefore (prefix cut : List ℕ) : Type 0 where
    pub none : (key : List ℕ) → is_lt (key_cmp state_of key cut) ≡ true → starts_with ◌==◌ key prefix ≡ false

  -- neither the cut nor a key after it begins with the prefix
  pub record IsNoneFrom (prefix cut : List ℕ) : Type 0 where
    pub none : (key : List ℕ) → is_gt (key_cmp state_of cut key) ≡ false → starts_with ◌==◌ key prefix ≡ false
