-- What an addition and a removal do to pairs whose keys rise, and how they carry over to more pairs around them.
use Rattle.std.proofs.Common.{ℕ, ◌≡◌, ◌≤◌, true, false, List, [], ◌∷◌, ◌++◌, length, get_or, refl, sym, ap, subst, ◌∙◌, arith, append_assoc, length-append}
use Rattle.std.specs.Prelude.{Option, Some, None, is_some}
use Rattle.std.specs.Option.{unwrap_or}
use Rattle.std.specs.Cmp.{IsTotalOrder}
use Rattle.std.specs.Ordering.{is_gt}
use Rattle.std.specs.declared.cmp.Ordering.{Ordering}
use Rattle.std.specs.declared.cmp.Ordering.TheVariants.{Less}
use Rattle.gr_base.specs.declared.numbers.RecordId.{RecordId}
use Rattle.gr_key_tree.specs.Pairs.{Pair, lookup}
use Rattle.gr_key_tree.specs.Inside.Rising.{Below, Above, Rising}
use Rattle.gr_key_tree.specs.Inside.Changes.{Adds, Inserts, StandsIn, Removes}
use Rattle.gr_key_tree.specs.Inside.Parts.{IsFirst}
use Rattle.gr_key_tree.proofs.Lookups.{same, apart, same_or_not, lookup_nil, lookup_past, lookup_here, lookup_right, lookup_first, has_none}
use Rattle.gr_key_tree.proofs.Rising.{before_after, gt_after, not_itself, not_both, below_append, above_append, rising_inserted, rising_removed}

abbrev key_of : Pair → List ℕ
key_of pair = pair.0

same_first : (p q : Pair) (ps qs : List Pair) → p ∷ ps ≡ q ∷ qs → p ≡ q
same_first p q ps qs e = ap (λ l. get_or l 0 p) e

module _ (cmp : List ℕ → List ℕ → Ordering) (o : IsTotalOrder cmp) where
  -- ---- look-ups among keys that are all before or all after
  pub lookup_below : (key : List ℕ) (pairs : List Pair) → Below cmp (λ pair. pair.0) key pairs → lookup pairs key ≡ None
  unfolding Below
  lookup_below key [] h = lookup_nil key
  lookup_below key (p ∷ pairs) h = lookup_past p pairs key (λ is. not_itself cmp o key (ap (λ k. cmp k key) is ∙ h.0)) ∙ lookup_below key pairs h.1

  pub lookup_above : (key : List ℕ) (pairs : List Pair) → Above cmp (λ pair. pair.0) key pairs → lookup pairs key ≡ None
  unfolding Above
  lookup_above key [] h = lookup_nil key
  lookup_above key (p ∷ pairs) h = lookup_past p pairs key (λ is. not_itself cmp o key (ap (λ k. cmp key k) is ∙ h.0)) ∙ lookup_above key pairs h.1

  pub lookup_between : (key : List ℕ) (left middle right : List Pair) → Below cmp (λ pair. pair.0) key left → Above cmp (λ pair. pair.0) key right → lookup (left ++ (middle ++ right)) key ≡ lookup middle key
  lookup_between key left middle right below above =
      lookup_right left (middle ++ right) key (lookup_below key left below) ∙ lookup_first middle right key (lookup_above key right above)

  pub lookup_stands : (pairs : List Pair) (key : List ℕ) (id : RecordId) → StandsIn cmp pairs key id → lookup pairs key ≡ Some id
  lookup_stands pairs key id stands =
      ap (λ l. lookup l key) stands.is ∙ lookup_right stands.before ((key, id) ∷ stands.after) key (lookup_below key stands.before stands.below) ∙ lookup_here (key, id) stands.after

  pub lookup_gap : (key : List ℕ) (left right : List Pair) → Below cmp (λ pair. pair.0) key left → Above cmp (λ pair. pair.0) key right → lookup (left ++ right) key ≡ None
  lookup_gap key left right below above = lookup_right left right key (lookup_below key left below) ∙ lookup_above key right above

  -- ---- changes carried over to more pairs
  module _ (key : List ℕ) (left middle right : List Pair) (below : Below cmp (λ pair. pair.0) key left) (above : Above cmp (λ pair. pair.0) key right) where
    pub stands_between : (id : RecordId) → StandsIn cmp middle key id → StandsIn cmp (left ++ (middle ++ right)) key id
    stands_between id s = record {
      before = left ++ s.before;
      after = s.after ++ right;
      is = ap (λ l. left ++ (l ++ right)) s.is ∙ ap (λ l. left ++ l) (append_assoc s.before ((key, id) ∷ s.after) right) ∙ sym (append_assoc left s.before ((key, id) ∷ (s.after ++ right)));
      below = below_append cmp o (λ pair. pair.0) key left s.before below s.below;
      above = above_append cmp o (λ pair. pair.0) key s.after right s.above above;
    }

    pub inserts_between : (id : RecordId) (new : List Pair) → Inserts cmp middle key id new → Inserts cmp (left ++ (middle ++ right)) key id (left ++ (new ++ right))
    inserts_between id new s = record {
      before = left ++ s.before;
      after = s.after ++ right;
      was = ap (λ l. left ++ (l ++ right)) s.was ∙ ap (λ l. left ++ l) (append_assoc s.before s.after right) ∙ sym (append_assoc left s.before (s.after ++ right));
      is = ap (λ l. left ++ (l ++ right)) s.is ∙ ap (λ l. left ++ l) (append_assoc s.before ((key, id) ∷ s.after) right) ∙ sym (append_assoc left s.before ((key, id) ∷ (s.after ++ right)));
      below = below_append cmp o (λ pair. pair.0) key left s.before below s.below;
      above = above_append cmp o (λ pair. pair.0) key s.after right s.above above;
    }

    pub removes_between : (new : List Pair) → Removes cmp middle key new → Removes cmp (left ++ (middle ++ right)) key (left ++ (new ++ right))
    removes_between new s = record {
      before = left ++ s.before;
      after = s.after ++ right;
      id = s.id;
      was = ap (λ l. left ++ (l ++ right)) s.was ∙ ap (λ l. left ++ l) (append_assoc s.before ((key, s.id) ∷ s.after) right) ∙ sym (append_assoc left s.before ((key, s.id) ∷ (s.after ++ right)));
      is = ap (λ l. left ++ (l ++ right)) s.is ∙ ap (λ l. left ++ l) (append_assoc s.before s.after right) ∙ sym (append_assoc left s.before (s.after ++ right));
      below = below_append cmp o (λ pair. pair.0) key left s.before below s.below;
      above = above_append cmp o (λ pair. pair.0) key s.after right s.above above;
    }

    pub adds_between : (id : RecordId) (new : List Pair) (found : Option RecordId) → Adds cmp middle key id new found → Adds cmp (left ++ (middle ++ right)) key id (left ++ (new ++ right)) found
    adds_between id new (Some there) adds = (stands_between there adds.0, ap (λ l. left ++ (l ++ right)) adds.1)
    adds_between id new None adds = inserts_between id new adds

  -- ---- what stays true
  pub rising_adds : (old : List Pair) (key : List ℕ) (id : RecordId) (new : List Pair) (found : Option RecordId) → Rising cmp (λ pair. pair.0) old → Adds cmp old key id new found → Rising cmp (λ pair. pair.0) new
  rising_adds old key id new (Some there) rising adds = rw adds.1 rising
  rising_adds old key id new None rising adds =
      rw adds.is (rising_inserted cmp o (λ pair. pair.0) adds.before (key, id) adds.after (rw (← adds.was) rising) adds.below adds.above)

  pub rising_removes : (old : List Pair) (key : List ℕ) (new : List Pair) → Rising cmp (λ pair. pair.0) old → Removes cmp old key new → Rising cmp (λ pair. pair.0) new
  rising_removes old key new rising removes =
      rw removes.is (rising_removed cmp o (λ pair. pair.0) removes.before (key, removes.id) removes.after (rw (← removes.was) rising))

  pub length_adds : (old : List Pair) (key : List ℕ) (id : RecordId) (new : List Pair) (found : Option RecordId) → Adds cmp old key id new found → length old ≤ length new
  length_adds old key id new (Some there) adds = let e = ap (λ (l : List Pair). length l) adds.1 in omega arith
  length_adds old key id new None adds =
      let was = ap (λ (l : List Pair). length l) adds.was ∙ length-append adds.before adds.after in
      let is = ap (λ (l : List Pair). length l) adds.is ∙ length-append adds.before ((key, id) ∷ adds.after) in
      omega arith

  below_head : (key : List ℕ) (p : Pair) (pairs : List Pair) → Below cmp (λ pair. pair.0) key (p ∷ pairs) → cmp p.0 key ≡ Less
  unfolding Below
  below_head key p pairs h = h.0

  above_head : (key : List ℕ) (p : Pair) (pairs : List Pair) → Above cmp (λ pair. pair.0) key (p ∷ pairs) → cmp key p.0 ≡ Less
  unfolding Above
  above_head key p pairs h = h.0

  not_gt : (a b : List ℕ) → cmp a b ≡ Less → is_gt (cmp a b) ≡ true → ⊥
  not_gt a b lt gt = not_both cmp o a b lt (gt_after cmp o a b gt)

  -- the first key stays where the added one is not before it
  first_inserted : (cut key : List ℕ) (id : RecordId) (one : RecordId) (rest before after new : List Pair) → (cut, one) ∷ rest ≡ before ++ after → new ≡ before ++ (key, id) ∷ after → Above cmp (λ pair. pair.0) key after → is_gt (cmp cut key) ≡ false → IsFirst cut new
  first_inserted cut key id one rest [] after new was is above le =
      let lt : cmp key cut ≡ Less = above_head key (cut, one) rest (rw was above) in
      let f : true ≡ false = ap is_gt (sym (before_after cmp o key cut lt)) ∙ le in absurd (cc)
  first_inserted cut key id one rest (p ∷ before) after new was is above le =
      record { id = one; rest = before ++ (key, id) ∷ after; is = is ∙ ap (λ (q : Pair). q ∷ (before ++ (key, id) ∷ after)) (sym (same_first (cut, one) p rest (before ++ after) was)) }

  pub first_stays : (cut : List ℕ) (old : List Pair) (key : List ℕ) (id : RecordId) (new : List Pair) (found : Option RecordId) → IsFirst cut old → Adds cmp old key id new found → is_gt (cmp cut key) ≡ false → IsFirst cut new
  first_stays cut old key id new (Some there) first adds le = rw adds.1 first
  first_stays cut old key id new None first adds le = first_inserted cut key id first.id first.rest adds.before adds.after new (sym first.is ∙ adds.was) adds.is adds.above le

  -- the added key is the first where it is before the one that was
  lower_inserted : (cut key : List ℕ) (id : RecordId) (one : RecordId) (rest before after new : List Pair) → (cut, one) ∷ rest ≡ before ++ after → new ≡ before ++ (key, id) ∷ after → Below cmp (λ pair. pair.0) key before → is_gt (cmp cut key) ≡ true → IsFirst key new
  lower_inserted cut key id one rest [] after new was is below gt = record { id = id; rest = after; is = is }
  lower_inserted cut key id one rest (p ∷ before) after new was is below gt =
      let lt : cmp cut key ≡ Less = ap (λ (q : Pair). cmp q.0 key) (same_first (cut, one) p rest (before ++ after) was) ∙ below_head key p before below in
      absurd (not_gt cut key lt gt)

  never_there : (cut key : List ℕ) (id : RecordId) (one : RecordId) (rest before after : List Pair) → (cut, one) ∷ rest ≡ before ++ (key, id) ∷ after → Below cmp (λ pair. pair.0) key before → is_gt (cmp cut key) ≡ true → ⊥
  never_there cut key id one rest [] after was below gt =
      let is : cut ≡ key = ap (λ (q : Pair). q.0) (same_first (cut, one) (key, id) rest after was) in
      not_itself cmp o key (ap (λ k. cmp key k) (sym is) ∙ gt_after cmp o cut key gt)
  never_there cut key id one rest (p ∷ before) after was below gt =
      not_gt cut key (ap (λ (q : Pair). cmp q.0 key) (same_first (cut, one) p rest (before ++ (key, id) ∷ after) was) ∙ below_head key p before below) gt

  pub first_lowered : (cut : List ℕ) (old : List Pair) (key : List ℕ) (id : RecordId) (new : List Pair) (found : Option RecordId) → IsFirst cut old → Adds cmp old key id new found → is_gt (cmp cut key) ≡ true → IsFirst key new
  first_lowered cut old key id new (Some there) first adds gt = absurd (never_there cut key there first.id first.rest adds.0.before adds.0.after (sym first.is ∙ adds.0.is) adds.0.below gt)
  first_lowered cut old key id new None first adds gt = lower_inserted cut key id first.id first.rest adds.before adds.after new (sym first.is ∙ adds.was) adds.is adds.below gt

  -- a key that a look-up finds stands among the others
  above_of : (key other : List ℕ) (id : RecordId) (before after : List Pair) → Above cmp (λ pair. pair.0) other (before ++ (key, id) ∷ after) → cmp other key ≡ Less
  unfolding Above
  above_of key other id [] after h = h.0
  above_of key other id (p ∷ before) after h = above_of key other id before after h.1

  found_after : (key : List ℕ) (id : RecordId) (p : Pair) (pairs : List Pair) → Above cmp (λ pair. pair.0) p.0 pairs → StandsIn cmp pairs key id → StandsIn cmp (p ∷ pairs) key id
  unfolding Below
  found_after key id p pairs above s = record {
    before = p ∷ s.before;
    after = s.after;
    is = ap (λ l. p ∷ l) s.is;
    below = (above_of key p.0 id s.before s.after (subst (λ (l : List Pair). Above cmp (λ (q : Pair). q.0) p.0 l) s.is above), s.below);
    above = s.above;
  }

  found_here : (p : Pair) (pairs : List Pair) → Above cmp (λ pair. pair.0) p.0 pairs → StandsIn cmp (p ∷ pairs) p.0 p.1
  unfolding Below
  found_here p pairs above = record { before = []; after = pairs; is = refl; below = tt; above = above }

  same_some : (x y : RecordId) → Some x ≡ Some y → x ≡ y
  same_some x y e = ap (λ o. unwrap_or o x) e

  pub found_stands : (pairs : List Pair) (key : List ℕ) (id : RecordId) → Rising cmp (λ pair. pair.0) pairs → lookup pairs key ≡ Some id → StandsIn cmp pairs key id
  unfolding Rising
  found_stands [] key id rising e = absurd (has_none [] key (lookup_nil key) (ap is_some e))
  found_stands (p ∷ pairs) key id rising e = elim (same_or_not key p.0) [
    | same is ↦
        let one : p.1 ≡ id = same_some p.1 id (sym (lookup_here p pairs) ∙ ap (lookup (p ∷ pairs)) (sym is) ∙ e) in
        rw (is, ← one) (found_here p pairs rising.0)
    | apart other ↦ found_after key id p pairs rising.0 (found_stands pairs key id rising.1 (sym (lookup_past p pairs key other) ∙ e))
  ]
