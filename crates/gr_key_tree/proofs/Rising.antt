-- Lists whose keys rise: their parts, one more item, one less, and a search by halving.
use Rattle.std.proofs.Common.{ℕ, ◌≡◌, ◌<◌, ◌≤◌, ◌+◌, true, false, List, [], ◌∷◌, ◌++◌, length, take, drop, get_or, refl, sym, ap, subst, ◌∙◌, arith, zero, suc, add-one}
use Rattle.std.proofs.Math.Seq.{drop-cons}
use Rattle.std.proofs.lemmas.List.{take_more}
use Rattle.std.specs.Cmp.{IsTotalOrder, alike_right, tied_itself, on_total}
use Rattle.std.specs.Cmp.Lexicographic.{nat_list_cmp_total}
use Rattle.std.specs.Ordering.{is_gt, is_eq, ordering_reverse}
use Rattle.std.specs.declared.cmp.Ordering.{Ordering}
use Rattle.std.specs.declared.cmp.Ordering.TheVariants.{Less, Equal, Greater}
use Rattle.gr_key_tree.specs.Order.{key_cmp}
use Rattle.gr_key_tree.specs.Inside.Rising.{Below, Above, UpTo, Rising}

module _ (cmp : List ℕ → List ℕ → Ordering) (o : IsTotalOrder cmp) where
  turned : (a b : List ℕ) (r : Ordering) → cmp a b ≡ r → r ≡ Greater → cmp b a ≡ Less
  turned a b r e is = o.antisymm b a ∙ ap ordering_reverse (e ∙ is)

  pub after_before : (a b : List ℕ) → cmp a b ≡ Greater → cmp b a ≡ Less
  after_before a b e = turned a b Greater e refl

  pub before_after : (a b : List ℕ) → cmp a b ≡ Less → cmp b a ≡ Greater
  before_after a b e = o.antisymm b a ∙ ap ordering_reverse e

  upto_by : (a b c : List ℕ) (r : Ordering) → cmp b c ≡ r → is_gt r ≡ false → cmp a b ≡ Less → cmp a c ≡ Less
  upto_by a b c Less e h lt = o.trans a b c lt e
  upto_by a b c Equal e h lt = sym (alike_right o b c a e) ∙ lt
  upto_by a b c Greater e h lt = absurd (cc)

  -- before a key that is not after another
  pub before_upto : (a b c : List ℕ) → cmp a b ≡ Less → is_gt (cmp b c) ≡ false → cmp a c ≡ Less
  before_upto a b c lt h = upto_by a b c (cmp b c) refl h lt

  upto_before_by : (a b c : List ℕ) (r : Ordering) → cmp a b ≡ r → is_gt r ≡ false → cmp b c ≡ Less → cmp a c ≡ Less
  upto_before_by a b c Less e h lt = o.trans a b c e lt
  upto_before_by a b c Equal e h lt = o.congr a b c e ∙ lt
  upto_before_by a b c Greater e h lt = absurd (cc)

  -- not after a key that is before another
  pub upto_before : (a b c : List ℕ) → is_gt (cmp a b) ≡ false → cmp b c ≡ Less → cmp a c ≡ Less
  upto_before a b c h lt = upto_before_by a b c (cmp a b) refl h lt

  is_greater : (r : Ordering) → is_gt r ≡ true → r ≡ Greater
  is_greater Less e = absurd (cc)
  is_greater Equal e = absurd (cc)
  is_greater Greater e = refl

  pub gt_after : (a b : List ℕ) → is_gt (cmp a b) ≡ true → cmp b a ≡ Less
  gt_after a b e = after_before a b (is_greater (cmp a b) e)

  pub not_itself : (a : List ℕ) → cmp a a ≡ Less → ⊥
  not_itself a lt = let e = tied_itself o a in let f : is_eq Less ≡ is_eq Equal = ap is_eq (sym lt ∙ e) in cc

  pub not_both : (a b : List ℕ) → cmp a b ≡ Less → cmp b a ≡ Less → ⊥
  not_both a b lt gt = not_itself a (o.trans a b a lt gt)

  module _ {X : Type 0} (key_of : X → List ℕ) where
    pub below_append : (key : List ℕ) (xs ys : List X) → Below cmp key_of key xs → Below cmp key_of key ys → Below cmp key_of key (xs ++ ys)
    unfolding Below
    below_append key [] ys a b = b
    below_append key (x ∷ xs) ys a b = (a.0, below_append key xs ys a.1 b)

    pub below_left : (key : List ℕ) (xs ys : List X) → Below cmp key_of key (xs ++ ys) → Below cmp key_of key xs
    unfolding Below
    below_left key [] ys h = tt
    below_left key (x ∷ xs) ys h = (h.0, below_left key xs ys h.1)

    pub above_append : (key : List ℕ) (xs ys : List X) → Above cmp key_of key xs → Above cmp key_of key ys → Above cmp key_of key (xs ++ ys)
    unfolding Above
    above_append key [] ys a b = b
    above_append key (x ∷ xs) ys a b = (a.0, above_append key xs ys a.1 b)

    pub above_left : (key : List ℕ) (xs ys : List X) → Above cmp key_of key (xs ++ ys) → Above cmp key_of key xs
    unfolding Above
    above_left key [] ys h = tt
    above_left key (x ∷ xs) ys h = (h.0, above_left key xs ys h.1)

    pub above_right : (key : List ℕ) (xs ys : List X) → Above cmp key_of key (xs ++ ys) → Above cmp key_of key ys
    unfolding Above
    above_right key [] ys h = h
    above_right key (x ∷ xs) ys h = above_right key xs ys h.1

    pub below_upto : (key other : List ℕ) (xs : List X) → Below cmp key_of key xs → is_gt (cmp key other) ≡ false → Below cmp key_of other xs
    unfolding Below
    below_upto key other [] h le = tt
    below_upto key other (x ∷ xs) h le = (before_upto (key_of x) key other h.0 le, below_upto key other xs h.1 le)

    pub above_after : (key other : List ℕ) (xs : List X) → Above cmp key_of key xs → cmp other key ≡ Less → Above cmp key_of other xs
    unfolding Above
    above_after key other [] h lt = tt
    above_after key other (x ∷ xs) h lt = (o.trans other key (key_of x) lt h.0, above_after key other xs h.1 lt)

    pub rising_left : (xs ys : List X) → Rising cmp key_of (xs ++ ys) → Rising cmp key_of xs
    unfolding Rising
    rising_left [] ys h = tt
    rising_left (x ∷ xs) ys h = (above_left (key_of x) xs ys h.0, rising_left xs ys h.1)

    pub rising_right : (xs ys : List X) → Rising cmp key_of (xs ++ ys) → Rising cmp key_of ys
    unfolding Rising
    rising_right [] ys h = h
    rising_right (x ∷ xs) ys h = rising_right xs ys h.1

    above_first : (key : List ℕ) (xs : List X) (y : X) (ys : List X) → Above cmp key_of key (xs ++ y ∷ ys) → cmp key (key_of y) ≡ Less
    unfolding Above
    above_first key [] y ys h = h.0
    above_first key (x ∷ xs) y ys h = above_first key xs y ys h.1

    -- what stands before an item
    pub rising_below : (xs : List X) (y : X) (ys : List X) → Rising cmp key_of (xs ++ y ∷ ys) → Below cmp key_of (key_of y) xs
    unfolding Rising Below
    rising_below [] y ys h = tt
    rising_below (x ∷ xs) y ys h = (above_first (key_of x) xs y ys h.0, rising_below xs y ys h.1)

    -- what stands after an item
    pub rising_above : (y : X) (ys : List X) → Rising cmp key_of (y ∷ ys) → Above cmp key_of (key_of y) ys
    unfolding Rising
    rising_above y ys h = h.0

    above_inserted : (key : List ℕ) (xs : List X) (y : X) (ys : List X) → Above cmp key_of key (xs ++ ys) → cmp key (key_of y) ≡ Less → Above cmp key_of key (xs ++ y ∷ ys)
    unfolding Above
    above_inserted key [] y ys h lt = (lt, h)
    above_inserted key (x ∷ xs) y ys h lt = (h.0, above_inserted key xs y ys h.1 lt)

    above_removed : (key : List ℕ) (xs : List X) (y : X) (ys : List X) → Above cmp key_of key (xs ++ y ∷ ys) → Above cmp key_of key (xs ++ ys)
    unfolding Above
    above_removed key [] y ys h = h.1
    above_removed key (x ∷ xs) y ys h = (h.0, above_removed key xs y ys h.1)

    pub rising_inserted : (xs : List X) (y : X) (ys : List X) → Rising cmp key_of (xs ++ ys) → Below cmp key_of (key_of y) xs → Above cmp key_of (key_of y) ys → Rising cmp key_of (xs ++ y ∷ ys)
    unfolding Rising Below
    rising_inserted [] y ys h below above = (above, h)
    rising_inserted (x ∷ xs) y ys h below above = (above_inserted (key_of x) xs y ys h.0 below.0, rising_inserted xs y ys h.1 below.1 above)

    pub rising_removed : (xs : List X) (y : X) (ys : List X) → Rising cmp key_of (xs ++ y ∷ ys) → Rising cmp key_of (xs ++ ys)
    unfolding Rising
    rising_removed [] y ys h = h.1
    rising_removed (x ∷ xs) y ys h = (above_removed (key_of x) xs y ys h.0, rising_removed xs y ys h.1)

    -- ---- the search by halving
    upto_below : (key other : List ℕ) (xs : List X) → Below cmp key_of other xs → is_gt (cmp other key) ≡ false → UpTo cmp key_of key xs
    unfolding Below UpTo
    upto_below key other [] h le = tt
    upto_below key other (x ∷ xs) h le = (ap is_gt (before_upto (key_of x) other key h.0 le), upto_below key other xs h.1 le)

    upto_append : (key : List ℕ) (xs ys : List X) → UpTo cmp key_of key xs → UpTo cmp key_of key ys → UpTo cmp key_of key (xs ++ ys)
    unfolding UpTo
    upto_append key [] ys a b = b
    upto_append key (x ∷ xs) ys a b = (a.0, upto_append key xs ys a.1 b)

    upto_one : (key : List ℕ) (x : X) → is_gt (cmp (key_of x) key) ≡ false → UpTo cmp key_of key (x ∷ [])
    unfolding UpTo
    upto_one key x le = (le, tt)

    above_cons : (key : List ℕ) (x : X) (xs : List X) → cmp key (key_of x) ≡ Less → Above cmp key_of key xs → Above cmp key_of key (x ∷ xs)
    unfolding Above
    above_cons key x xs lt h = (lt, h)

    -- a list at an index
    parts_by : (xs : List X) (i : ℕ) (x : X) → i < length xs → x ≡ get_or xs i x → xs ≡ take i xs ++ x ∷ drop (suc i) xs
    parts_by [] i x within at = absurd (omega arith)
    parts_by (y ∷ xs) zero x within at = λ j. sym at j ∷ xs
    parts_by (y ∷ xs) (suc i) x within at = ap (λ l. y ∷ l) (parts_by xs i x (omega arith) at)

    pub parts_at : (xs : List X) (i : ℕ) (x : X) → i < length xs → x ≡ get_or xs i x → xs ≡ take i xs ++ x ∷ drop (i + 1) xs
    parts_at xs i x within at = rw add-one (parts_by xs i x within at)

    pub dropped_at : (xs : List X) (i : ℕ) (x : X) → i < length xs → x ≡ get_or xs i x → drop i xs ≡ x ∷ drop (i + 1) xs
    dropped_at xs i x within at = rw add-one (drop-cons xs i x within ∙ ap (λ (y : X). y ∷ drop (suc i) xs) (sym at))

    pub reached_more : (xs : List X) (key : List ℕ) (i : ℕ) (x : X) → Rising cmp key_of xs → i < length xs → x ≡ get_or xs i x → is_gt (cmp (key_of x) key) ≡ false → UpTo cmp key_of key (take (i + 1) xs)
    reached_more xs key i x rising within at le =
        let whole = parts_at xs i x within at in
        let below : Below cmp key_of (key_of x) (take i xs) = rising_below (take i xs) x (drop (i + 1) xs) (subst (λ (l : List X). Rising cmp key_of l) whole rising) in
        subst (λ (l : List X). UpTo cmp key_of key l) (sym (take_more xs i x within ∙ ap (λ (y : X). take i xs ++ y ∷ []) (sym at)))
        (upto_append key (take i xs) (x ∷ []) (upto_below key (key_of x) (take i xs) below le) (upto_one key x le))

    pub passed_more : (xs : List X) (key : List ℕ) (i : ℕ) (x : X) → Rising cmp key_of xs → i < length xs → x ≡ get_or xs i x → is_gt (cmp (key_of x) key) ≡ true → Above cmp key_of key (drop i xs)
    passed_more xs key i x rising within at gt =
        let whole = parts_at xs i x within at in
        let rest : Rising cmp key_of (x ∷ drop (i + 1) xs) = rising_right (take i xs) (x ∷ drop (i + 1) xs) (subst (λ (l : List X). Rising cmp key_of l) whole rising) in
        let lt = gt_after (key_of x) key gt in
        subst (λ (l : List X). Above cmp key_of key l) (sym (dropped_at xs i x within at))
        (above_cons key x (drop (i + 1) xs) lt (above_after (key_of x) key (drop (i + 1) xs) (rising_above x (drop (i + 1) xs) rest) lt))

    pub nothing_reached : (key : List ℕ) (xs : List X) → UpTo cmp key_of key (take 0 xs)
    unfolding UpTo
    nothing_reached key xs = tt

    all_dropped : (xs : List X) (n : ℕ) → length xs ≤ n → drop n xs ≡ []
    all_dropped [] zero h = refl
    all_dropped [] (suc n) h = refl
    all_dropped (x ∷ xs) zero h = absurd (omega arith)
    all_dropped (x ∷ xs) (suc n) h = all_dropped xs n (omega arith)

    pub nothing_passed : (key : List ℕ) (xs : List X) (n : ℕ) → length xs ≤ n → Above cmp key_of key (drop n xs)
    unfolding Above
    nothing_passed key xs n h = rw (all_dropped xs n h) tt

-- the order of keys is total
pub key_total : (state_of : List ℕ → ℕ) → IsTotalOrder (key_cmp state_of)
unfolding key_cmp
key_total state_of = on_total (λ key. state_of key ∷ key) nat_list_cmp_total
