-- What a removal makes of a leaf and of all children.
use Rattle.std.proofs.Common.{ℕ, ◌≡◌, ◌≤◌, ◌<◌, ◌+◌, List, [], ◌∷◌, ◌++◌, length, take, drop, get_or, refl, ap, subst, ◌∙◌, arith, length-append, false, eqb}
use Rattle.std.proofs.lemmas.Bool.{eq-eqb}
use Rattle.std.specs.Prelude.{Some, None, slice_set}
use Rattle.std.proofs.lemmas.List.{append-nil}
use Rattle.std.specs.Cmp.{IsTotalOrder}
use Rattle.std.specs.declared.cmp.Ordering.{Ordering}
use Rattle.gr_key_tree.specs.Pairs.{Pair}
use Rattle.gr_key_tree.specs.Inside.Changes.{Removes}
use Rattle.gr_key_tree.specs.Inside.Less.{IsLess}
use Rattle.gr_key_tree.specs.Inside.Parts.{IsChild, AreChildren, IsInner, IsLeaf, IsPart, all_pairs, inner_of}
use Rattle.gr_key_tree.specs.Inside.Places.{IsPlace}
use Rattle.gr_key_tree.specs.Inside.Seen.{Seen, Part}
use Rattle.gr_key_tree.proofs.Changes.{rising_removes}
use Rattle.gr_key_tree.proofs.Children.{child_at, removes_at, are_one, are_replaced, are_empty, length_replaced}
use Rattle.gr_key_tree.proofs.Adding.{set_at}

length_removes : (cmp : List ℕ → List ℕ → Ordering) (old : List Pair) (key : List ℕ) (new : List Pair) → Removes cmp old key new → length new + 1 ≡ length old
length_removes cmp old key new removes =
    let was = ap (λ (l : List Pair). length l) removes.was ∙ length-append removes.before ((key, removes.id) ∷ removes.after) in
    let is = ap (λ (l : List Pair). length l) removes.is ∙ length-append removes.before removes.after in
    omega arith

module _ (cmp : List ℕ → List ℕ → Ordering) (o : IsTotalOrder cmp) where
  pub leaf_less : (old : List Pair) (key : List ℕ) (new : List Pair) → IsLeaf cmp old → Removes cmp old key new → 0 < length new → IsLeaf cmp new
  leaf_less old key new leaf removes some =
      let len = length_removes cmp old key new removes in
      let room = leaf.room in
      record { rising = rising_removes cmp o old key new leaf.rising removes; some = some; room = omega arith }

  module _ (height : ℕ) (xs : List Part) (i : ℕ) (x : Part) (key : List ℕ) (inner : IsInner cmp height xs) (place : IsPlace cmp key xs i) (at : x ≡ get_or xs i x) where
    level : height ≡ x.node.height + 1
    level = (child_at cmp o xs i x place.within at height inner.each).level

    inner_less : (ys : List Part) → AreChildren height ys → length ys ≤ 1 → 1 < length xs + length ys → Removes cmp x.node.pairs key (all_pairs ys) → IsInner cmp height (take i xs ++ (ys ++ drop (i + 1) xs))
    inner_less ys each few many removes =
        let len = length_replaced cmp o xs i x place.within at ys in
        let room = inner.room in
        record {
          rising = rising_removes cmp o (all_pairs xs) key (all_pairs (take i xs ++ (ys ++ drop (i + 1) xs))) inner.rising (removes_at cmp o xs i x place.within at ys key place removes);
          each = are_replaced cmp o xs i x place.within at ys height inner.each each;
          some = omega arith;
          room = omega arith;
        }

    -- a child with less in the place of a child
    module _ (less : Seen) (y : Part) (is : IsLess cmp x.node key (Some less)) (part : IsPart less y.cut y.node) where
      one_removes : Removes cmp x.node.pairs key (all_pairs (y ∷ []))
      one_removes = rw (append-nil y.node.pairs, part.is) is.0

      one_child : IsChild height y.cut y.node
      one_child = rw (level, ← is.1) part.fits

      pub less_set : IsInner cmp height (slice_set xs i y)
      less_set = rw (set_at xs i y place.within) (inner_less (y ∷ []) (are_one height y one_child) (omega arith) (let within = place.within in omega arith) one_removes)

      pub removes_set : IsLess cmp (inner_of height xs) key (Some (inner_of height (slice_set xs i y)))
      removes_set = (rw (set_at xs i y place.within) (removes_at cmp o xs i x place.within at (y ∷ []) key place one_removes), refl)

    -- a child that is gone
    module _ (is : IsLess cmp x.node key None) where
      pub less_gone : 1 < length xs → IsInner cmp height (take i xs ++ drop (i + 1) xs)
      less_gone many = inner_less [] (are_empty height) (omega arith) (omega arith) is

      pub removes_gone : IsLess cmp (inner_of height xs) key (Some (inner_of height (take i xs ++ drop (i + 1) xs)))
      removes_gone = (removes_at cmp o xs i x place.within at [] key place is, refl)

      none_around : length xs ≡ 1 → take i xs ++ drop (i + 1) xs ≡ []
      none_around one = no_items _ (let len = length_replaced cmp o xs i x place.within at [] in omega arith)
        where
          no_items : (l : List Part) → length l ≡ 0 → l ≡ []
          no_items [] e = refl
          no_items (z ∷ l) e = absurd (omega arith)

      pub removes_last : length xs ≡ 1 → IsLess cmp (inner_of height xs) key None
      removes_last one = subst (λ (l : List Part). Removes cmp (all_pairs xs) key (all_pairs l)) (none_around one) (removes_at cmp o xs i x place.within at [] key place is)

-- a vector that is not empty has items
pub some_items : {X : Type 0} (xs : List X) (len : ℕ) → len ≡ length xs → eqb len 0 ≡ false → 0 < length xs
some_items [] len is test = let yes_is = eq-eqb len 0 is in absurd (cc)
some_items (x ∷ xs) len is test = omega arith
