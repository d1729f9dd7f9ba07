-- What an addition makes of a child, of a node that is parted, and of all children.
use Rattle.std.proofs.Common.{ℕ, ◌≡◌, ◌≤◌, ◌<◌, ◌+◌, true, false, List, [], ◌∷◌, ◌++◌, length, take, drop, get_or, refl, sym, ap, subst, ◌∙◌, arith, length-append, zero, suc, add-one}
use Rattle.std.specs.Prelude.{Option, Some, None, Result, Ok, Err, slice_set}
use Rattle.std.proofs.lemmas.List.{append-nil}
use Rattle.std.specs.Option.{unwrap_or}
use Rattle.std.specs.Cmp.{IsTotalOrder}
use Rattle.std.specs.Ordering.{is_gt}
use Rattle.std.specs.declared.cmp.Ordering.{Ordering}
use Rattle.gr_base.specs.declared.numbers.RecordId.{RecordId}
use Rattle.gr_key_tree.specs.declared.halves.Halves.{Halves}
use Rattle.gr_key_tree.specs.declared.halves.Parted.{Parted}
use Rattle.gr_key_tree.specs.Pairs.{Pair}
use Rattle.gr_key_tree.specs.Inside.Rising.{Below, Above, Rising}
use Rattle.gr_key_tree.specs.Inside.Changes.{Adds, Answers}
use Rattle.gr_key_tree.specs.Inside.Halves.{IsLowerCut, IsHalved, IsParted}
use Rattle.gr_key_tree.specs.Inside.Parts.{IsFirst, IsChild, AreChildren, IsInner, IsLeaf, all_pairs}
use Rattle.gr_key_tree.specs.Inside.Places.{IsPlace}
use Rattle.gr_key_tree.specs.Inside.Seen.{Seen, Part, Stays}
use Rattle.gr_key_tree.proofs.Rising.{rising_left, rising_right, rising_below, below_upto, gt_after}
use Rattle.gr_key_tree.proofs.Changes.{adds_between, rising_adds, first_stays, first_lowered}
use Rattle.gr_key_tree.proofs.Children.{all_parts, all_replaced, all_append, are_left, are_right, are_one, are_cons, child_at, adds_at, are_replaced, length_replaced, first_pair}
use Rattle.gr_key_tree.proofs.Places.{whole_at}

set_by : {X : Type 0} (xs : List X) (i : ℕ) (y : X) → i < length xs → slice_set xs i y ≡ take i xs ++ y ∷ drop (suc i) xs
set_by [] i y h = absurd (omega arith)
set_by (x ∷ xs) zero y h = refl
set_by (x ∷ xs) (suc i) y h = ap (λ r. x ∷ r) (set_by xs i y (omega arith))

pub set_at : {X : Type 0} (xs : List X) (i : ℕ) (y : X) → i < length xs → slice_set xs i y ≡ take i xs ++ y ∷ drop (i + 1) xs
set_at xs i y h = rw add-one (set_by xs i y h)

module _ (cmp : List ℕ → List ℕ → Ordering) (o : IsTotalOrder cmp) where
  -- ---- a child
  first_after : (cut : List ℕ) (old : Seen) (key : List ℕ) (id : RecordId) (new : Seen) (found : Option RecordId) (lower : Option (List ℕ)) → IsFirst cut old.pairs → Adds cmp old.pairs key id new.pairs found → IsLowerCut cmp cut key lower → IsFirst (unwrap_or lower cut) new.pairs
  first_after cut old key id new found None first adds low = first_stays cmp o cut old.pairs key id new.pairs found first adds low
  first_after cut old key id new found (Some lower) first adds low = rw low.1 (first_lowered cmp o cut old.pairs key id new.pairs found first adds low.0)

  pub child_after : (cut : List ℕ) (old : Seen) (key : List ℕ) (id : RecordId) (new : Seen) (found : Option RecordId) (lower : Option (List ℕ)) → IsChild (old.height + 1) cut old → Stays old new → Adds cmp old.pairs key id new.pairs found → IsLowerCut cmp cut key lower
      → IsChild (old.height + 1) (unwrap_or lower cut) new
  child_after cut old key id new found lower child stays adds low = record {
    level = ap (λ h. h + 1) (sym stays.height);
    first = first_after cut old key id new found lower child.first adds low;
  }

  -- ---- a node that is parted
  module _ {K : Type 0} (node : Seen) (halves : Halves K) (key : List ℕ) (id : RecordId) (halved : IsHalved cmp node halves) where
    lower_rising : Rising cmp (λ pair. pair.0) halves.lower.node.pairs
    lower_rising = rising_left cmp o (λ (p : Pair). p.0) halves.lower.node.pairs halves.upper.node.pairs (subst (λ (l : List Pair). Rising cmp (λ (p : Pair). p.0) l) halved.whole halved.rising)

    upper_rising : Rising cmp (λ pair. pair.0) halves.upper.node.pairs
    upper_rising = rising_right cmp o (λ (p : Pair). p.0) halves.lower.node.pairs halves.upper.node.pairs (subst (λ (l : List Pair). Rising cmp (λ (p : Pair). p.0) l) halved.whole halved.rising)

    -- both outcomes, as parts of a node
    pub adds_lower : (new : Seen) (found : Option RecordId) → is_gt (cmp halves.upper.cut key) ≡ true → Adds cmp halves.lower.node.pairs key id new.pairs found → Adds cmp node.pairs key id (new.pairs ++ halves.upper.node.pairs) found
    unfolding Below
    adds_lower new found gt adds =
        rw halved.whole (adds_between cmp o key [] halves.lower.node.pairs halves.upper.node.pairs tt (first_pair cmp o key halves.upper.cut halves.upper.node.pairs halved.fit.upper.first upper_rising (gt_after cmp o halves.upper.cut key gt)) id new.pairs found adds)

    lower_below : is_gt (cmp halves.upper.cut key) ≡ false → Below cmp (λ pair. pair.0) key halves.lower.node.pairs
    lower_below le =
        let first = halved.fit.upper.first in
        below_upto cmp o (λ (p : Pair). p.0) halves.upper.cut key halves.lower.node.pairs
        (rising_below cmp o (λ (p : Pair). p.0) halves.lower.node.pairs (halves.upper.cut, first.id) first.rest (subst (λ (l : List Pair). Rising cmp (λ (p : Pair). p.0) l) (halved.whole ∙ ap (λ l. halves.lower.node.pairs ++ l) first.is) halved.rising)) le

    pub adds_upper : (new : Seen) (found : Option RecordId) → is_gt (cmp halves.upper.cut key) ≡ false → Adds cmp halves.upper.node.pairs key id new.pairs found → Adds cmp node.pairs key id (halves.lower.node.pairs ++ new.pairs) found
    unfolding Above
    adds_upper new found le adds =
        rw halved.whole (rw (append-nil halves.upper.node.pairs, append-nil new.pairs) at (adds_between cmp o key halves.lower.node.pairs halves.upper.node.pairs [] (lower_below le) tt id new.pairs found adds))

-- ---- outcomes
module _ (cmp : List ℕ → List ℕ → Ordering) (o : IsTotalOrder cmp) where
  pub rising_answers : {E : Type 0} (old : List Pair) (key : List ℕ) (id : RecordId) (new : List Pair) (r : Result (Option RecordId) E) → Rising cmp (λ pair. pair.0) old → Answers cmp old key id new r → Rising cmp (λ pair. pair.0) new
  rising_answers old key id new (Ok found) rising answers = rising_adds cmp o old key id new found rising answers
  rising_answers old key id new (Err e) rising answers = rw answers rising

  pub leaf_answers : {E : Type 0} (old : List Pair) (key : List ℕ) (id : RecordId) (new : List Pair) (r : Result (Option RecordId) E) → IsLeaf cmp old → length old < 32 → Answers cmp old key id new r → length old ≤ length new → length new ≤ length old + 1 → IsLeaf cmp new
  leaf_answers old key id new r leaf small answers grows by_one = let some = leaf.some in record {
    rising = rising_answers old key id new r leaf.rising answers;
    some = omega arith;
    room = omega arith;
  }

  module _ (height : ℕ) (xs : List Part) (i : ℕ) (x : Part) (key : List ℕ) (id : RecordId) (inner : IsInner cmp height xs) (small : length xs < 32) (place : IsPlace cmp key xs i) (at : x ≡ get_or xs i x) where
    level : height ≡ x.node.height + 1
    level = (child_at cmp o xs i x place.within at height inner.each).level

    pub answers_at : {E : Type 0} (ys : List Part) (r : Result (Option RecordId) E) → Answers cmp x.node.pairs key id (all_pairs ys) r → Answers cmp (all_pairs xs) key id (all_pairs (take i xs ++ (ys ++ drop (i + 1) xs))) r
    answers_at ys (Ok found) answers = adds_at cmp o xs i x place.within at ys key id found place answers
    answers_at ys (Err e) answers = all_replaced cmp o xs i x place.within at ys ∙ ap (λ l. all_pairs (take i xs) ++ (l ++ all_pairs (drop (i + 1) xs))) answers ∙ sym (all_parts cmp o xs i x place.within at)

    inner_answers : {E : Type 0} (ys : List Part) (r : Result (Option RecordId) E) → AreChildren height ys → 0 < length ys → length ys ≤ 2 → Answers cmp x.node.pairs key id (all_pairs ys) r → IsInner cmp height (take i xs ++ (ys ++ drop (i + 1) xs))
    inner_answers ys r each some few answers =
        let len = length_replaced cmp o xs i x place.within at ys in
        record {
          rising = rising_answers (all_pairs xs) key id (all_pairs (take i xs ++ (ys ++ drop (i + 1) xs))) r inner.rising (answers_at ys r answers);
          each = are_replaced cmp o xs i x place.within at ys height inner.each each;
          some = omega arith;
          room = omega arith;
        }

    -- one child in the place of another
    module _ {E : Type 0} (y : Part) (r : Result (Option RecordId) E) (child : IsChild (x.node.height + 1) y.cut y.node) (answers : Answers cmp x.node.pairs key id y.node.pairs r) where
      one_answers : Answers cmp x.node.pairs key id (all_pairs (y ∷ [])) r
      one_answers = rw (append-nil y.node.pairs) answers

      pub inner_set : IsInner cmp height (slice_set xs i y)
      inner_set = rw (set_at xs i y place.within) (inner_answers (y ∷ []) r (are_one height y (rw level child)) (omega arith) (omega arith) one_answers)

      pub answers_set : Answers cmp (all_pairs xs) key id (all_pairs (slice_set xs i y)) r
      answers_set = rw (set_at xs i y place.within) (answers_at (y ∷ []) r one_answers)

    -- two children in the place of one
    module _ {K : Type 0} (parted : Parted K) (is : IsParted cmp x.node key id parted) where
      two : List Part
      two = parted.halves.lower ∷ parted.halves.upper ∷ []

      two_answers : Answers cmp {E = ℕ} x.node.pairs key id (all_pairs (parted.halves.lower ∷ parted.halves.upper ∷ [])) (Ok parted.found)
      two_answers = rw (append-nil parted.halves.upper.node.pairs) is.adds

      pub inner_two : IsInner cmp height (take i xs ++ parted.halves.lower ∷ parted.halves.upper ∷ drop (i + 1) xs)
      inner_two = inner_answers {E = ℕ} (parted.halves.lower ∷ parted.halves.upper ∷ []) (Ok parted.found)
          (are_cons height parted.halves.lower (parted.halves.upper ∷ []) (rw level is.fit.lower) (are_one height parted.halves.upper (rw level is.fit.upper))) (omega arith) (omega arith) two_answers

      pub adds_two : Adds cmp (all_pairs xs) key id (all_pairs (take i xs ++ parted.halves.lower ∷ parted.halves.upper ∷ drop (i + 1) xs)) parted.found
      adds_two = answers_at {E = ℕ} (parted.halves.lower ∷ parted.halves.upper ∷ []) (Ok parted.found) two_answers

  -- ---- a parted node with the key
  module _ {K : Type 0} (node : Seen) (halves : Halves K) (key : List ℕ) (id : RecordId) (halved : IsHalved cmp node halves) (new : Part) (found : Option RecordId) where
    pub parted_lower : is_gt (cmp halves.upper.cut key) ≡ true → IsChild (halves.lower.node.height + 1) new.cut new.node → Adds cmp halves.lower.node.pairs key id new.node.pairs found
        → IsParted {K = K} cmp node key id (record { found = found; halves = record { lower = new; upper = halves.upper } })
    parted_lower gt child adds = let all = adds_lower cmp o node halves key id halved new.node found gt adds in record {
      fit = record { lower = rw halved.fit.lower.level child; upper = halved.fit.upper };
      rising = rising_adds cmp o node.pairs key id (new.node.pairs ++ halves.upper.node.pairs) found halved.rising all;
      adds = all;
    }

    pub parted_upper : is_gt (cmp halves.upper.cut key) ≡ false → IsChild (halves.upper.node.height + 1) new.cut new.node → Adds cmp halves.upper.node.pairs key id new.node.pairs found
        → IsParted {K = K} cmp node key id (record { found = found; halves = record { lower = halves.lower; upper = new } })
    parted_upper le child adds = let all = adds_upper cmp o node halves key id halved new.node found le adds in record {
      fit = record { lower = halved.fit.lower; upper = rw halved.fit.upper.level child };
      rising = rising_adds cmp o node.pairs key id (halves.lower.node.pairs ++ new.node.pairs) found halved.rising all;
      adds = all;
    }

-- ---- parts of a node
module _ (cmp : List ℕ → List ℕ → Ordering) (o : IsTotalOrder cmp) where
  pub leaf_front : (xs front back : List Pair) → xs ≡ front ++ back → 0 < length front → IsLeaf cmp xs → IsLeaf cmp front
  leaf_front xs front back is some leaf =
      let len = ap (λ (l : List Pair). length l) is ∙ length-append front back in
      let room = leaf.room in
      record { rising = rising_left cmp o (λ (p : Pair). p.0) front back (subst (λ (l : List Pair). Rising cmp (λ (p : Pair). p.0) l) is leaf.rising); some = some; room = omega arith }

  pub leaf_back : (xs front back : List Pair) → xs ≡ front ++ back → 0 < length back → IsLeaf cmp xs → IsLeaf cmp back
  leaf_back xs front back is some leaf =
      let len = ap (λ (l : List Pair). length l) is ∙ length-append front back in
      let room = leaf.room in
      record { rising = rising_right cmp o (λ (p : Pair). p.0) front back (subst (λ (l : List Pair). Rising cmp (λ (p : Pair). p.0) l) is leaf.rising); some = some; room = omega arith }

  pub inner_front : (height : ℕ) (xs front back : List Part) → xs ≡ front ++ back → 0 < length front → IsInner cmp height xs → IsInner cmp height front
  inner_front height xs front back is some inner =
      let len = ap (λ (l : List Part). length l) is ∙ length-append front back in
      let room = inner.room in
      record {
        rising = rising_left cmp o (λ (p : Pair). p.0) (all_pairs front) (all_pairs back) (subst (λ (l : List Pair). Rising cmp (λ (p : Pair). p.0) l) (ap all_pairs is ∙ all_append front back) inner.rising);
        each = are_left height front back (subst (λ (l : List Part). AreChildren height l) is inner.each);
        some = some;
        room = omega arith;
      }

  pub inner_back : (height : ℕ) (xs front back : List Part) → xs ≡ front ++ back → 0 < length back → IsInner cmp height xs → IsInner cmp height back
  inner_back height xs front back is some inner =
      let len = ap (λ (l : List Part). length l) is ∙ length-append front back in
      let room = inner.room in
      record {
        rising = rising_right cmp o (λ (p : Pair). p.0) (all_pairs front) (all_pairs back) (subst (λ (l : List Pair). Rising cmp (λ (p : Pair). p.0) l) (ap all_pairs is ∙ all_append front back) inner.rising);
        each = are_right height front back (subst (λ (l : List Part). AreChildren height l) is inner.each);
        some = some;
        room = omega arith;
      }

pub split_is : {X : Type 0} (ys xs front back : List X) (n : ℕ) → xs ≡ ys → front ≡ take n xs → back ≡ drop n xs → ys ≡ front ++ back
split_is ys xs front back n is first rest = sym is ∙ whole_at xs n ∙ (λ i. sym first i ++ sym rest i)

pub same_at : {X : Type 0} (xs : List X) (i : ℕ) (x y : X) → i < length xs → x ≡ get_or xs i x → y ≡ get_or xs i y → x ≡ y
same_at [] i x y within at other = absurd (omega arith)
same_at (z ∷ xs) zero x y within at other = at ∙ sym other
same_at (z ∷ xs) (suc i) x y within at other = same_at xs i x y (omega arith) at other
