-- What becomes of a list of pairs in the order of their keys.
use Rattle.std.specs.Prelude.{ℕ, ◌≡◌, List, ◌++◌, ◌∷◌, Option, Some, None, Result, Ok, Err}
use Rattle.std.specs.declared.cmp.Ordering.{Ordering}
use Rattle.gr_base.specs.declared.numbers.RecordId.{RecordId}
use Rattle.gr_key_tree.specs.Pairs.{Pair}
use Rattle.gr_key_tree.specs.Inside.Rising.{Below, Above}

module _ (cmp : List ℕ → List ℕ → Ordering) where
  -- a pair is put where its key belongs, among pairs of other keys
  pub record Inserts (old : List Pair) (key : List ℕ) (id : RecordId) (new : List Pair) : Type 0 where
    pub before : List Pair
    pub after : List Pair
    pub was : old ≡ before ++ after
    pub is : new ≡ before ++ (key, id) ∷ after
    pub below : Below cmp (λ pair. pair.0) key before
    pub above : Above cmp (λ pair. pair.0) key after

  -- the pair of a key stands among pairs of other keys
  pub record StandsIn (pairs : List Pair) (key : List ℕ) (id : RecordId) : Type 0 where
    pub before : List Pair
    pub after : List Pair
    pub is : pairs ≡ before ++ (key, id) ∷ after
    pub below : Below cmp (λ pair. pair.0) key before
    pub above : Above cmp (λ pair. pair.0) key after

  -- the pair of a key is taken out
  pub record Removes (old : List Pair) (key : List ℕ) (new : List Pair) : Type 0 where
    pub before : List Pair
    pub after : List Pair
    pub id : RecordId
    pub was : old ≡ before ++ (key, id) ∷ after
    pub is : new ≡ before ++ after
    pub below : Below cmp (λ pair. pair.0) key before
    pub above : Above cmp (λ pair. pair.0) key after

  -- the id of the key that is there, or else the key is put in
  abbrev pub Adds : List Pair → List ℕ → RecordId → List Pair → Option RecordId → Type 0
  Adds old key id new (Some there) = StandsIn old key there × (new ≡ old)
  Adds old key id new None = Inserts old key id new

  -- the same; for want of memory the pairs stay
  abbrev pub Answers : {E : Type 0} → List Pair → List ℕ → RecordId → List Pair → Result (Option RecordId) E → Type 0
  Answers old key id new (Ok found) = Adds old key id new found
  Answers old key id new (Err _) = new ≡ old
