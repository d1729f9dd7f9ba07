-- Where a search by halving ends: at the pair of a key, at a gap between pairs, or at a child.
use Rattle.std.proofs.Common.{ℕ, ◌≡◌, ◌≤◌, ◌<◌, ◌+◌, ◌-◌, true, false, List, [], ◌∷◌, ◌++◌, length, take, drop, get_or, refl, sym, ap, subst, ◌∙◌, arith, zero, suc, add-one}
use Rattle.std.specs.Prelude.{None}
use Rattle.std.proofs.lemmas.List.{take_more}
use Rattle.std.specs.Cmp.{IsTotalOrder}
use Rattle.std.specs.FinMap.{slice_cmp-IsAntisymmetric, nat_cmp-IsAntisymmetric}
use Rattle.std.specs.Ordering.{is_gt, is_eq}
use Rattle.std.specs.declared.cmp.Ordering.{Ordering}
use Rattle.std.specs.declared.cmp.Ordering.TheVariants.{Less, Equal, Greater}
use Rattle.gr_key_tree.specs.Order.{key_cmp}
use Rattle.gr_key_tree.specs.Pairs.{Pair, lookup}
use Rattle.gr_key_tree.specs.Inside.Rising.{Below, Above, Rising, UpTo, IsReached}
use Rattle.gr_base.specs.declared.numbers.RecordId.{RecordId}
use Rattle.gr_key_tree.specs.Inside.Changes.{Inserts, StandsIn, Removes}
use Rattle.gr_key_tree.proofs.Changes.{lookup_gap}
use Rattle.gr_key_tree.specs.Inside.Parts.{AreChildren, IsInner, all_pairs}
use Rattle.gr_key_tree.specs.Inside.Places.{IsPlace, IsThere, IsGap}
use Rattle.gr_key_tree.specs.Inside.Seen.{Part}
use Rattle.gr_key_tree.proofs.Rising.{key_total, below_append, below_upto, rising_right, rising_below, parts_at, dropped_at}
use Rattle.gr_key_tree.proofs.Children.{are_first, are_rest, pairs_above, cuts_rising}

-- keys that tie are the same
pub same_ranked : (state_of : List ℕ → ℕ) (a b : List ℕ) → key_cmp state_of a b ≡ Equal → a ≡ b
unfolding key_cmp
same_ranked state_of a b e = ap (λ (l : List ℕ). drop 1 l) (slice_cmp-IsAntisymmetric nat_cmp-IsAntisymmetric (state_of a ∷ a) (state_of b ∷ b) e)

is_equal : (r : Ordering) → is_eq r ≡ true → r ≡ Equal
is_equal Less e = absurd (cc)
is_equal Equal e = refl
is_equal Greater e = absurd (cc)

is_less : (r : Ordering) → is_eq r ≡ false → is_gt r ≡ false → r ≡ Less
is_less Less e g = refl
is_less Equal e g = absurd (cc)
is_less Greater e g = absurd (cc)

module _ (state_of : List ℕ → ℕ) where
  abbrev cmp : List ℕ → List ℕ → Ordering
  cmp = key_cmp state_of

  o : IsTotalOrder (key_cmp state_of)
  o = key_total state_of

  last_upto : {X : Type 0} (key_of : X → List ℕ) (key : List ℕ) (xs : List X) (x : X) → UpTo (key_cmp state_of) key_of key (xs ++ x ∷ []) → is_gt (key_cmp state_of (key_of x) key) ≡ false
  unfolding UpTo
  last_upto key_of key [] x h = h.0
  last_upto key_of key (y ∷ xs) x h = last_upto key_of key xs x h.1

  module _ (key : List ℕ) (xs : List Pair) (count n : ℕ) (x : Pair) (rising : Rising (key_cmp state_of) (λ pair. pair.0) xs) (reached : IsReached (key_cmp state_of) (λ pair. pair.0) key xs count)
      (is : count ≡ n + 1) (within : n < length xs) (at : x ≡ get_or xs n x) where
    le : is_gt (key_cmp state_of x.0 key) ≡ false
    le = last_upto (λ (p : Pair). p.0) key (take n xs) x (subst (λ (l : List Pair). UpTo (key_cmp state_of) (λ p. p.0) key l) (ap (λ k. take k xs) is ∙ take_more xs n x within ∙ ap (λ (y : Pair). take n xs ++ y ∷ []) (sym at)) reached.upto)

    before : Below (key_cmp state_of) (λ p. p.0) x.0 (take n xs)
    before = rising_below (key_cmp state_of) o (λ (p : Pair). p.0) (take n xs) x (drop (n + 1) xs) (subst (λ (l : List Pair). Rising (key_cmp state_of) (λ p. p.0) l) (parts_at (key_cmp state_of) o (λ (p : Pair). p.0) xs n x within at) rising)

    pub located_there : is_eq (key_cmp state_of x.0 key) ≡ true → IsThere (key_cmp state_of) key xs n
    located_there e =
        let same : x.0 ≡ key = same_ranked state_of x.0 key (is_equal _ e) in
        record {
          within = within;
          id = x.1;
          here = dropped_at (key_cmp state_of) o (λ (p : Pair). p.0) xs n x within at ∙ (λ i. (same i, x.1) ∷ drop (n + 1) xs);
          below = subst (λ k. Below (key_cmp state_of) (λ (p : Pair). p.0) k (take n xs)) same before;
          above = subst (λ k. Above (key_cmp state_of) (λ (p : Pair). p.0) key (drop k xs)) is reached.past;
        }

    pub located_gap : is_eq (key_cmp state_of x.0 key) ≡ false → IsGap (key_cmp state_of) key xs count
    unfolding Below
    located_gap e = record {
      within = reached.within;
      below = subst (λ (l : List Pair). Below (key_cmp state_of) (λ p. p.0) key l) (sym (ap (λ k. take k xs) is ∙ take_more xs n x within ∙ ap (λ (y : Pair). take n xs ++ y ∷ []) (sym at)))
          (below_append (key_cmp state_of) o (λ (p : Pair). p.0) key (take n xs) (x ∷ []) (below_upto (key_cmp state_of) o (λ (p : Pair). p.0) x.0 key (take n xs) before le) (one (is_less _ e le)));
      above = reached.past;
    }
      where
        one : key_cmp state_of x.0 key ≡ Less → Below (key_cmp state_of) (λ (p : Pair). p.0) key (x ∷ [])
        one lt = (lt, tt)

  pub located_start : (key : List ℕ) (xs : List Pair) (count : ℕ) → IsReached (key_cmp state_of) (λ pair. pair.0) key xs count → count ≡ 0 → IsGap (key_cmp state_of) key xs 0
  unfolding Below
  located_start key xs count reached is = record {
    within = omega arith;
    below = tt;
    above = subst (λ k. Above (key_cmp state_of) (λ (p : Pair). p.0) key (drop k xs)) is reached.past;
  }

  -- ---- the child of a key
  place_below : (height : ℕ) (key : List ℕ) (x : Part) (xs : List Part) (i : ℕ) → i ≤ length xs → Rising (key_cmp state_of) (λ pair. pair.0) (all_pairs (x ∷ xs)) → AreChildren height (x ∷ xs)
      → UpTo (key_cmp state_of) (λ child. child.cut) key (take i xs) → Below (key_cmp state_of) (λ pair. pair.0) key (all_pairs (take i (x ∷ xs)))
  unfolding UpTo Below
  place_below height key x xs zero within rising each h = tt
  place_below height key x [] (suc i) within rising each h = absurd (omega arith)
  place_below height key x (y ∷ xs) (suc i) within rising each h =
      let first = (are_first height y xs (are_rest height x (y ∷ xs) each)).first in
      let split : Rising (key_cmp state_of) (λ (p : Pair). p.0) (x.node.pairs ++ (y.cut, first.id) ∷ (first.rest ++ all_pairs xs)) = subst (λ (l : List Pair). Rising (key_cmp state_of) (λ (p : Pair). p.0) (x.node.pairs ++ (l ++ all_pairs xs))) first.is rising in
      below_append (key_cmp state_of) o (λ (p : Pair). p.0) key x.node.pairs (all_pairs (take i (y ∷ xs)))
      (below_upto (key_cmp state_of) o (λ (p : Pair). p.0) y.cut key x.node.pairs (rising_below (key_cmp state_of) o (λ (p : Pair). p.0) x.node.pairs (y.cut, first.id) (first.rest ++ all_pairs xs) split) h.0)
      (place_below height key y xs i (omega arith) (rising_right (key_cmp state_of) o (λ (p : Pair). p.0) x.node.pairs (all_pairs (y ∷ xs)) rising) (are_rest height x (y ∷ xs) each) h.1)

  place_above : (height : ℕ) (key : List ℕ) (xs : List Part) (i : ℕ) → AreChildren height xs → Rising (key_cmp state_of) (λ pair. pair.0) (all_pairs xs)
      → Above (key_cmp state_of) (λ child. child.cut) key (drop i xs) → Above (key_cmp state_of) (λ pair. pair.0) key (all_pairs (drop i xs))
  place_above height key xs zero each rising h = pairs_above (key_cmp state_of) o height key xs each rising h
  place_above height key [] (suc i) each rising h = pairs_above (key_cmp state_of) o height key [] each rising h
  place_above height key (x ∷ xs) (suc i) each rising h = place_above height key xs i (are_rest height x xs each) (rising_right (key_cmp state_of) o (λ (p : Pair). p.0) x.node.pairs (all_pairs xs) rising) h

  pub placed : (height : ℕ) (key : List ℕ) (xs : List Part) (i : ℕ) → IsInner (key_cmp state_of) height xs → IsReached (key_cmp state_of) (λ child. child.cut) key (drop 1 xs) i → IsPlace (key_cmp state_of) key xs i
  placed height key [] i inner reached = let some = inner.some in absurd (omega arith)
  placed height key (x ∷ xs) i inner reached = let within = reached.within in record {
    within = omega arith;
    below = place_below height key x xs i reached.within inner.rising inner.each reached.upto;
    above = rw add-one (place_above height key xs i (are_rest height x xs inner.each) (rising_right (key_cmp state_of) o (λ (p : Pair). p.0) x.node.pairs (all_pairs xs) inner.rising) reached.past);
  }

-- ---- what a place in a leaf gives
pub whole_at : {X : Type 0} (xs : List X) (n : ℕ) → xs ≡ take n xs ++ drop n xs
whole_at [] zero = refl
whole_at [] (suc n) = refl
whole_at (x ∷ xs) zero = refl
whole_at (x ∷ xs) (suc n) = ap (λ l. x ∷ l) (whole_at xs n)

head_is : (p q : Pair) (ps qs : List Pair) → p ∷ ps ≡ q ∷ qs → p ≡ q
head_is p q ps qs e = ap (λ l. get_or l 0 p) e

module _ (state_of : List ℕ → ℕ) (key : List ℕ) (xs : List Pair) (n : ℕ) where
  there_parts : (t : IsThere (key_cmp state_of) key xs n) → xs ≡ take n xs ++ (key, t.id) ∷ drop (n + 1) xs
  there_parts t = whole_at xs n ∙ ap (λ l. take n xs ++ l) t.here

  pub there_stands : (t : IsThere (key_cmp state_of) key xs n) (x : Pair) → x ≡ get_or xs n x → StandsIn (key_cmp state_of) xs key x.1
  there_stands t x at =
      let is : x ≡ (key, t.id) = head_is x (key, t.id) _ _ (sym (dropped_at (key_cmp state_of) (key_total state_of) (λ (p : Pair). p.0) xs n x t.within at) ∙ t.here) in
      record {
        before = take n xs;
        after = drop (n + 1) xs;
        is = there_parts t ∙ (λ i. take n xs ++ (key, (sym is i).1) ∷ drop (n + 1) xs);
        below = t.below;
        above = t.above;
      }

  pub there_removes : IsThere (key_cmp state_of) key xs n → Removes (key_cmp state_of) xs key (take n xs ++ drop (n + 1) xs)
  there_removes t = record { before = take n xs; after = drop (n + 1) xs; id = t.id; was = there_parts t; is = refl; below = t.below; above = t.above }

  pub gap_inserts : (id : RecordId) → IsGap (key_cmp state_of) key xs n → Inserts (key_cmp state_of) xs key id (take n xs ++ (key, id) ∷ drop n xs)
  gap_inserts id t = record { before = take n xs; after = drop n xs; was = whole_at xs n; is = refl; below = t.below; above = t.above }

  pub gap_none : IsGap (key_cmp state_of) key xs n → lookup xs key ≡ None
  gap_none t = ap (λ l. lookup l key) (whole_at xs n) ∙ lookup_gap (key_cmp state_of) (key_total state_of) key (take n xs) (drop n xs) t.below t.above

-- ---- a list without its first item
take_whole : {X : Type 0} (xs : List X) → take (length xs) xs ≡ xs
take_whole [] = refl
take_whole (x ∷ xs) = ap (λ l. x ∷ l) (take_whole xs)

pub rest_is : {X : Type 0} (xs : List X) → take (length xs - 1) (drop 1 xs) ≡ drop 1 xs
rest_is [] = refl
rest_is (x ∷ xs) = let e : length (x ∷ xs) - 1 ≡ length xs = omega arith in ap (λ n. take n xs) e ∙ take_whole xs

module _ (state_of : List ℕ → ℕ) where
  rest_rising : (xs : List Part) → Rising (key_cmp state_of) (λ part. part.cut) xs → Rising (key_cmp state_of) (λ part. part.cut) (drop 1 xs)
  unfolding Rising
  rest_rising [] h = tt
  rest_rising (x ∷ xs) h = h.1

  pub cuts_after_first : (height : ℕ) (xs : List Part) → IsInner (key_cmp state_of) height xs → Rising (key_cmp state_of) (λ part. part.cut) (take (length xs - 1) (drop 1 xs))
  cuts_after_first height xs inner = rw (rest_is xs) (rest_rising xs (cuts_rising (key_cmp state_of) (key_total state_of) height xs inner.each inner.rising))

  pub placed_after_first : (height : ℕ) (key : List ℕ) (xs : List Part) (i : ℕ) → IsInner (key_cmp state_of) height xs → IsReached (key_cmp state_of) (λ part. part.cut) key (take (length xs - 1) (drop 1 xs)) i → IsPlace (key_cmp state_of) key xs i
  placed_after_first height key xs i inner reached = placed state_of height key xs i inner (subst (λ (l : List Part). IsReached (key_cmp state_of) (λ part. part.cut) key l i) (rest_is xs) reached)
