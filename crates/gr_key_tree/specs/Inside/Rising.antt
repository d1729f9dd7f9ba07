-- Lists whose keys rise.
use Rattle.std.specs.Prelude.{ℕ, ◌≡◌, ◌≤◌, false, List, [], ◌∷◌, ⊤, length, take, drop}
use Rattle.std.specs.Ordering.{is_gt}
use Rattle.std.specs.declared.cmp.Ordering.{Ordering}
use Rattle.std.specs.declared.cmp.Ordering.TheVariants.{Less}

module _ {X : Type 0} (cmp : List ℕ → List ℕ → Ordering) (key_of : X → List ℕ) where
  -- each key is before this one
  unfoldable pub Below : List ℕ → List X → Type 0
  Below key [] = ⊤
  Below key (x ∷ xs) = (cmp (key_of x) key ≡ Less) × Below key xs

  -- each key is after this one
  unfoldable pub Above : List ℕ → List X → Type 0
  Above key [] = ⊤
  Above key (x ∷ xs) = (cmp key (key_of x) ≡ Less) × Above key xs

  -- no key is after this one
  unfoldable pub UpTo : List ℕ → List X → Type 0
  UpTo key [] = ⊤
  UpTo key (x ∷ xs) = (is_gt (cmp (key_of x) key) ≡ false) × UpTo key xs

  -- each key is before those that follow
  unfoldable pub Rising : List X → Type 0
  Rising [] = ⊤
  Rising (x ∷ xs) = Above (key_of x) xs × Rising xs

  -- the first so many keys are not after this one, and all others are
  pub record IsReached (key : List ℕ) (xs : List X) (count : ℕ) : Type 0 where
    pub within : count ≤ length xs
    pub upto : UpTo key (take count xs)
    pub past : Above key (drop count xs)
