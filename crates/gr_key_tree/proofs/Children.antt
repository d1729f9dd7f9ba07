-- The children of an inner node: their pairs, their order, and the place of a key.
use Rattle.std.proofs.Common.{ℕ, ◌≡◌, ◌<◌, ◌+◌, List, [], ◌∷◌, ◌++◌, length, take, drop, get_or, refl, sym, ap, subst, ◌∙◌, arith, append_assoc, length-append, zero, suc, add-one}
use Rattle.std.specs.Prelude.{Option, slice_set}
use Rattle.std.specs.Cmp.{IsTotalOrder}
use Rattle.std.specs.declared.cmp.Ordering.{Ordering}
use Rattle.std.specs.declared.cmp.Ordering.TheVariants.{Less}
use Rattle.gr_base.specs.declared.numbers.RecordId.{RecordId}
use Rattle.gr_key_tree.specs.Pairs.{Pair, lookup}
use Rattle.gr_key_tree.specs.Inside.Rising.{Above, Rising}
use Rattle.gr_key_tree.specs.Inside.Changes.{Adds, Removes}
use Rattle.gr_key_tree.specs.Inside.Parts.{IsFirst, IsChild, AreChildren, all_pairs}
use Rattle.gr_key_tree.specs.Inside.Places.{IsPlace}
use Rattle.gr_key_tree.specs.Inside.Seen.{Part}
use Rattle.gr_key_tree.proofs.Rising.{above_append, above_right, above_after, rising_left, rising_right, rising_above, parts_at}
use Rattle.gr_key_tree.proofs.Changes.{lookup_between, adds_between, removes_between}

module _ (cmp : List ℕ → List ℕ → Ordering) (o : IsTotalOrder cmp) where
  pub first_pair : (key : List ℕ) (cut : List ℕ) (pairs : List Pair) → IsFirst cut pairs → Rising cmp (λ pair. pair.0) pairs → cmp key cut ≡ Less → Above cmp (λ pair. pair.0) key pairs
  unfolding Above
  first_pair key cut pairs first rising lt =
      rw first.is (pair_above (rising_above cmp o (λ (pair : Pair). pair.0) (cut, first.id) first.rest (rw (← first.is) rising)))
    where
      pair_above : Above cmp (λ (pair : Pair). pair.0) cut first.rest → Above cmp (λ (pair : Pair). pair.0) key ((cut, first.id) ∷ first.rest)
      pair_above h = (lt, above_after cmp o (λ (pair : Pair). pair.0) cut key first.rest h lt)

pub all_append : (xs ys : List Part) → all_pairs (xs ++ ys) ≡ all_pairs xs ++ all_pairs ys
all_append [] ys = refl
all_append (x ∷ xs) ys = ap (λ l. x.node.pairs ++ l) (all_append xs ys) ∙ sym (append_assoc x.node.pairs (all_pairs xs) (all_pairs ys))

pub are_append : (height : ℕ) (xs ys : List Part) → AreChildren height xs → AreChildren height ys → AreChildren height (xs ++ ys)
unfolding AreChildren
are_append height [] ys a b = b
are_append height (x ∷ xs) ys a b = (a.0, are_append height xs ys a.1 b)

pub are_left : (height : ℕ) (xs ys : List Part) → AreChildren height (xs ++ ys) → AreChildren height xs
unfolding AreChildren
are_left height [] ys h = tt
are_left height (x ∷ xs) ys h = (h.0, are_left height xs ys h.1)

pub are_right : (height : ℕ) (xs ys : List Part) → AreChildren height (xs ++ ys) → AreChildren height ys
unfolding AreChildren
are_right height [] ys h = h
are_right height (x ∷ xs) ys h = are_right height xs ys h.1

pub are_first : (height : ℕ) (x : Part) (xs : List Part) → AreChildren height (x ∷ xs) → IsChild height x.cut x.node
unfolding AreChildren
are_first height x xs h = h.0

pub are_rest : (height : ℕ) (x : Part) (xs : List Part) → AreChildren height (x ∷ xs) → AreChildren height xs
unfolding AreChildren
are_rest height x xs h = h.1

pub are_cons : (height : ℕ) (x : Part) (xs : List Part) → IsChild height x.cut x.node → AreChildren height xs → AreChildren height (x ∷ xs)
unfolding AreChildren
are_cons height x xs a b = (a, b)

pub are_empty : (height : ℕ) → AreChildren height []
unfolding AreChildren
are_empty height = tt

pub are_one : (height : ℕ) (x : Part) → IsChild height x.cut x.node → AreChildren height (x ∷ [])
unfolding AreChildren
are_one height x a = (a, tt)

module _ (cmp : List ℕ → List ℕ → Ordering) (o : IsTotalOrder cmp) where
  -- a key before the cuts is before all pairs
  pub pairs_above : (height : ℕ) (key : List ℕ) (xs : List Part) → AreChildren height xs → Rising cmp (λ pair. pair.0) (all_pairs xs) → Above cmp (λ child. child.cut) key xs → Above cmp (λ pair. pair.0) key (all_pairs xs)
  unfolding Above
  pairs_above height key [] each rising h = nil_above
    where
      nil_above : Above cmp (λ (pair : Pair). pair.0) key []
      nil_above = tt
  pairs_above height key (x ∷ xs) each rising h =
      above_append cmp o (λ (pair : Pair). pair.0) key x.node.pairs (all_pairs xs)
      (first_pair cmp o key x.cut x.node.pairs (are_first height x xs each).first (rising_left cmp o (λ (pair : Pair). pair.0) x.node.pairs (all_pairs xs) rising) (head_of h))
      (pairs_above height key xs (are_rest height x xs each) (rising_right cmp o (λ (pair : Pair). pair.0) x.node.pairs (all_pairs xs) rising) (rest_of h))
    where
      head_of : Above cmp (λ (child : Part). child.cut) key (x ∷ xs) → cmp key x.cut ≡ Less
      head_of h = h.0

      rest_of : Above cmp (λ (child : Part). child.cut) key (x ∷ xs) → Above cmp (λ child. child.cut) key xs
      rest_of h = h.1

  -- the cuts rise
  pub cuts_rising : (height : ℕ) (xs : List Part) → AreChildren height xs → Rising cmp (λ pair. pair.0) (all_pairs xs) → Rising cmp (λ child. child.cut) xs
  unfolding Rising Above
  cuts_rising height [] each rising = tt
  cuts_rising height (x ∷ xs) each rising =
      let first = (are_first height x xs each).first in
      let whole = subst (λ (l : List Pair). Rising cmp (λ (pair : Pair). pair.0) (l ++ all_pairs xs)) first.is rising in
      let above = above_right cmp o (λ (pair : Pair). pair.0) x.cut first.rest (all_pairs xs) (rising_above cmp o (λ (pair : Pair). pair.0) (x.cut, first.id) (first.rest ++ all_pairs xs) whole) in
      let rest = rising_right cmp o (λ (pair : Pair). pair.0) x.node.pairs (all_pairs xs) rising in
      (cuts_above xs (are_rest height x xs each) above, cuts_rising height xs (are_rest height x xs each) rest)
    where
      cuts_above : (ys : List Part) → AreChildren height ys → Above cmp (λ (pair : Pair). pair.0) x.cut (all_pairs ys) → Above cmp (λ child. child.cut) x.cut ys
      cuts_above [] each h = tt
      cuts_above (y ∷ ys) each h =
          let first = (are_first height y ys each).first in (
            (subst (λ (l : List Pair). Above cmp (λ (pair : Pair). pair.0) x.cut (l ++ all_pairs ys)) first.is h).0,
            cuts_above ys (are_rest height y ys each) (above_right cmp o (λ (pair : Pair). pair.0) x.cut y.node.pairs (all_pairs ys) h),
          )

-- ---- children in the place of one
set_by : {X : Type 0} (xs : List X) (i : ℕ) (u l : X) → i < length xs → slice_set (take (suc i) xs ++ u ∷ drop (suc i) xs) i l ≡ take i xs ++ l ∷ u ∷ drop (suc i) xs
set_by [] i u l h = absurd (omega arith)
set_by (x ∷ xs) zero u l h = refl
set_by (x ∷ xs) (suc i) u l h = ap (λ r. x ∷ r) (set_by xs i u l (omega arith))

pub set_inserted : {X : Type 0} (xs : List X) (i : ℕ) (u l : X) → i < length xs → slice_set (take (i + 1) xs ++ u ∷ drop (i + 1) xs) i l ≡ take i xs ++ l ∷ u ∷ drop (i + 1) xs
set_inserted xs i u l h = rw add-one (set_by xs i u l h)

-- ---- the child at an index
module _ (cmp : List ℕ → List ℕ → Ordering) (o : IsTotalOrder cmp) (xs : List Part) (i : ℕ) (x : Part) (within : i < length xs) (at : x ≡ get_or xs i x) where
  whole : xs ≡ take i xs ++ x ∷ drop (i + 1) xs
  whole = parts_at cmp o (λ (part : Part). part.cut) xs i x within at

  pub all_parts : all_pairs xs ≡ all_pairs (take i xs) ++ (x.node.pairs ++ all_pairs (drop (i + 1) xs))
  all_parts = ap all_pairs whole ∙ all_append (take i xs) (x ∷ drop (i + 1) xs)

  pub child_at : (height : ℕ) → AreChildren height xs → IsChild height x.cut x.node
  child_at height each = are_first height x (drop (i + 1) xs) (are_right height (take i xs) (x ∷ drop (i + 1) xs) (subst (λ (l : List Part). AreChildren height l) whole each))

  pub lookup_at : (key : List ℕ) → IsPlace cmp key xs i → lookup x.node.pairs key ≡ lookup (all_pairs xs) key
  lookup_at key place = sym (ap (λ l. lookup l key) all_parts ∙ lookup_between cmp o key (all_pairs (take i xs)) x.node.pairs (all_pairs (drop (i + 1) xs)) place.below place.above)

  -- other children in its place
  module _ (ys : List Part) where
    pub all_replaced : all_pairs (take i xs ++ (ys ++ drop (i + 1) xs)) ≡ all_pairs (take i xs) ++ (all_pairs ys ++ all_pairs (drop (i + 1) xs))
    all_replaced = all_append (take i xs) (ys ++ drop (i + 1) xs) ∙ ap (λ l. all_pairs (take i xs) ++ l) (all_append ys (drop (i + 1) xs))

    pub are_replaced : (height : ℕ) → AreChildren height xs → AreChildren height ys → AreChildren height (take i xs ++ (ys ++ drop (i + 1) xs))
    are_replaced height each new =
        let split = subst (λ (l : List Part). AreChildren height l) whole each in
        are_append height (take i xs) (ys ++ drop (i + 1) xs) (are_left height (take i xs) (x ∷ drop (i + 1) xs) split)
        (are_append height ys (drop (i + 1) xs) new (are_rest height x (drop (i + 1) xs) (are_right height (take i xs) (x ∷ drop (i + 1) xs) split)))

    pub length_replaced : length (take i xs ++ (ys ++ drop (i + 1) xs)) + 1 ≡ length xs + length ys
    length_replaced =
        let a = length-append (take i xs) (ys ++ drop (i + 1) xs) in
        let b = length-append ys (drop (i + 1) xs) in
        let c = ap (λ (l : List Part). length l) whole ∙ length-append (take i xs) (x ∷ drop (i + 1) xs) in
        omega arith

    -- what finds or adds a key in the child does it in all
    pub adds_at : (key : List ℕ) (id : RecordId) (found : Option RecordId) → IsPlace cmp key xs i → Adds cmp x.node.pairs key id (all_pairs ys) found → Adds cmp (all_pairs xs) key id (all_pairs (take i xs ++ (ys ++ drop (i + 1) xs))) found
    adds_at key id found place adds =
        rw (all_parts, all_replaced) (adds_between cmp o key (all_pairs (take i xs)) x.node.pairs (all_pairs (drop (i + 1) xs)) place.below place.above id (all_pairs ys) found adds)

    pub removes_at : (key : List ℕ) → IsPlace cmp key xs i → Removes cmp x.node.pairs key (all_pairs ys) → Removes cmp (all_pairs xs) key (all_pairs (take i xs ++ (ys ++ drop (i + 1) xs)))
    removes_at key place removes =
        rw (all_parts, all_replaced) (removes_between cmp o key (all_pairs (take i xs)) x.node.pairs (all_pairs (drop (i + 1) xs)) place.below place.above (all_pairs ys) removes)

-- the first key of children
pub first_of : (height : ℕ) (xs : List Part) (x : Part) (cut : List ℕ) → 0 < length xs → x ≡ get_or xs 0 x → AreChildren height xs → cut ≡ x.cut → IsFirst cut (all_pairs xs)
first_of height [] x cut some at each is = absurd (omega arith)
first_of height (y ∷ xs) x cut some at each is =
    let first = (are_first height y xs each).first in
    record { id = first.id; rest = first.rest ++ all_pairs xs; is = ap (λ l. l ++ all_pairs xs) first.is ∙ (λ j. (sym (is ∙ ap (λ (p : Part). p.cut) at) j, first.id) ∷ (first.rest ++ all_pairs xs)) }
