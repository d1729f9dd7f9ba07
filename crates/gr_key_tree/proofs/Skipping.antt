-- What a walk over the keys of a prefix may skip, how it goes on, and the smallest nodes.
use Rattle.std.proofs.Common.{ℕ, ◌≡◌, ◌≤◌, ◌<◌, ◌+◌, ◌-◌, List, [], ◌∷◌, ◌++◌, length, take, drop, get_or, refl, sym, ap, subst, ◌∙◌, arith, append_assoc, zero, suc}
use Rattle.std.proofs.lemmas.List.{append-nil, take_more}
use Rattle.gr_key_tree.specs.Order.{key_cmp, IsNoneBefore, IsNoneFrom}
use Rattle.gr_key_tree.specs.Pairs.{Pair}
use Rattle.gr_key_tree.specs.declared.halves.Halves.{Halves}
use Rattle.gr_key_tree.specs.Inside.Halves.{AreHalves, both_pairs}
use Rattle.gr_key_tree.specs.Inside.Held.{numbers_with}
use Rattle.gr_key_tree.specs.Inside.Parts.{IsInner, IsLeaf, all_pairs}
use Rattle.gr_key_tree.specs.Inside.Rising.{Rising, Above}
use Rattle.gr_key_tree.specs.Inside.Seen.{Part}
use Rattle.gr_key_tree.proofs.Rising.{key_total, rising_left, rising_right, rising_below, dropped_at}
use Rattle.gr_key_tree.proofs.Children.{all_parts, all_append, child_at, are_one, are_cons}
use Rattle.gr_key_tree.proofs.Exact.{none_first, none_below, numbers_append}

module _ (state_of : List ℕ → ℕ) (height : ℕ) (xs : List Part) (i : ℕ) (x : Part) (inner : IsInner (key_cmp state_of) height xs) (within : i < length xs) (at : x ≡ get_or xs i x) (prefix : List ℕ) where
  from_child : Rising (key_cmp state_of) (λ pair. pair.0) (x.node.pairs ++ all_pairs (drop (i + 1) xs))
  from_child = rising_right (key_cmp state_of) (key_total state_of) (λ (p : Pair). p.0) (all_pairs (take i xs)) (x.node.pairs ++ all_pairs (drop (i + 1) xs))
      (subst (λ (l : List Pair). Rising (key_cmp state_of) (λ (p : Pair). p.0) l) (all_parts (key_cmp state_of) (key_total state_of) xs i x within at) inner.rising)

  pub skip_from : IsNoneFrom state_of prefix x.cut → numbers_with prefix x.node.pairs ≡ []
  skip_from none = none_first state_of prefix x.cut none x.node.pairs (child_at (key_cmp state_of) (key_total state_of) xs i x within at height inner.each).first
      (rising_left (key_cmp state_of) (key_total state_of) (λ (p : Pair). p.0) x.node.pairs (all_pairs (drop (i + 1) xs)) from_child)

  pub skip_before : (next : Part) → i + 1 < length xs → next ≡ get_or xs (i + 1) next → IsNoneBefore state_of prefix next.cut → numbers_with prefix x.node.pairs ≡ []
  skip_before next more after none =
      let cmp = key_cmp state_of in
      let o = key_total state_of in
      let first = (child_at cmp o xs (i + 1) next more after height inner.each).first in
      let rest : all_pairs (drop (i + 1) xs) ≡ (next.cut, first.id) ∷ (first.rest ++ all_pairs (drop ((i + 1) + 1) xs)) =
      ap all_pairs (dropped_at cmp o (λ (part : Part). part.cut) xs (i + 1) next more after) ∙ ap (λ l. l ++ all_pairs (drop ((i + 1) + 1) xs)) first.is in
      none_below state_of prefix next.cut none x.node.pairs
      (rising_below cmp o (λ (p : Pair). p.0) x.node.pairs (next.cut, first.id) (first.rest ++ all_pairs (drop ((i + 1) + 1) xs))
      (subst (λ (l : List Pair). Rising cmp (λ (p : Pair). p.0) (x.node.pairs ++ l)) rest from_child))

  numbers_more : numbers_with prefix (all_pairs (take (i + 1) xs)) ≡ numbers_with prefix (all_pairs (take i xs)) ++ numbers_with prefix x.node.pairs
  numbers_more =
      ap (λ (l : List Part). numbers_with prefix (all_pairs l)) (take_more xs i x within ∙ ap (λ (y : Part). take i xs ++ y ∷ []) (sym at))
      ∙ ap (numbers_with prefix) (all_append (take i xs) (x ∷ []) ∙ ap (λ l. all_pairs (take i xs) ++ l) (append-nil x.node.pairs))
      ∙ numbers_append prefix (all_pairs (take i xs)) x.node.pairs

  -- a child that is walked
  pub walked : (old middle new : List ℕ) → middle ≡ old ++ numbers_with prefix (all_pairs (take i xs)) → new ≡ middle ++ numbers_with prefix x.node.pairs → new ≡ old ++ numbers_with prefix (all_pairs (take (i + 1) xs))
  walked old middle new so_far more = more ∙ ap (λ l. l ++ numbers_with prefix x.node.pairs) so_far ∙ append_assoc old (numbers_with prefix (all_pairs (take i xs))) (numbers_with prefix x.node.pairs) ∙ ap (λ l. old ++ l) (sym numbers_more)

  -- a child that is skipped
  pub skipped : (old middle : List ℕ) → middle ≡ old ++ numbers_with prefix (all_pairs (take i xs)) → numbers_with prefix x.node.pairs ≡ [] → middle ≡ old ++ numbers_with prefix (all_pairs (take (i + 1) xs))
  skipped old middle so_far none = walked old middle middle so_far (sym (append-nil middle) ∙ ap (λ l. middle ++ l) (sym none))

-- ---- the smallest nodes
pub single_leaf : (state_of : List ℕ → ℕ) (pair : Pair) → IsLeaf (key_cmp state_of) (pair ∷ [])
unfolding Rising Above
single_leaf state_of pair = record { rising = (tt, tt); some = omega arith; room = omega arith }

pub over_halves : {K : Type 0} (state_of : List ℕ → ℕ) (height : ℕ) (halves : Halves K) → AreHalves height halves → Rising (key_cmp state_of) (λ pair. pair.0) (both_pairs halves) → IsInner (key_cmp state_of) height (halves.lower ∷ halves.upper ∷ [])
over_halves state_of height halves fit rising = record {
  rising = rw (append-nil halves.upper.node.pairs) rising;
  each = are_cons height halves.lower (halves.upper ∷ []) fit.lower (are_one height halves.upper fit.upper);
  some = omega arith;
  room = omega arith;
}

-- the end of a list, as a slice has it
take_all : {X : Type 0} (xs : List X) → take (length xs) xs ≡ xs
take_all [] = refl
take_all (x ∷ xs) = ap (λ l. x ∷ l) (take_all xs)

length_dropped : {X : Type 0} (xs : List X) (n : ℕ) → length (drop n xs) ≡ length xs - n
length_dropped [] zero = refl
length_dropped [] (suc n) = omega arith
length_dropped (x ∷ xs) zero = omega arith
length_dropped (x ∷ xs) (suc n) = let rest = length_dropped xs n in omega arith

pub tail_is : {X : Type 0} (xs : List X) (n : ℕ) → take (length xs - n) (drop n xs) ≡ drop n xs
tail_is xs n = ap (λ k. take k (drop n xs)) (sym (length_dropped xs n)) ∙ take_all (drop n xs)

pub all_taken : {X : Type 0} (xs : List X) (n : ℕ) → length xs ≤ n → take n xs ≡ xs
all_taken [] zero past = refl
all_taken [] (suc n) past = refl
all_taken (x ∷ xs) zero past = absurd (omega arith)
all_taken (x ∷ xs) (suc n) past = ap (λ l. x ∷ l) (all_taken xs n (omega arith))

pub item_at : {X : Type 0} (xs : List X) (i : ℕ) → i < length xs → (x : X) × (x ≡ get_or xs i x)
item_at [] i within = absurd (omega arith)
item_at (x ∷ xs) zero within = (x, refl)
item_at (x ∷ xs) (suc i) within = item_at xs i (omega arith)
