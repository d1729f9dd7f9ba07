-- The first so many of a list in order, while it grows.
use Rattle.std.proofs.Common.{◌≡◌, ℕ, zero, suc, ◌+◌, ◌-◌, ◌<◌, ◌≤◌, Bool, true, false, cond, List, [], ◌∷◌, ◌++◌, length, get_or, take, length-append, eqb, eqb-true, false-eqb, ◌≢◌, Ordering, is_lt, refl, sym, ap, subst, ◌∙◌, arith, true≢false}
use Rattle.std.proofs.lemmas.List.{length-take-le}
use Rattle.std.proofs.lemmas.List.Sorted.{length_permutation}
use Rattle.std.proofs.lemmas.List.Sums.{fold_push}
use Rattle.std.specs.Cmp.{IsStrictWeakOrder}
use Rattle.gr_sort.specs.Inside.Place.{IsBounded, last_of, place}
use Rattle.gr_sort.specs.Order.{in_order, put}
use Rattle.gr_sort.proofs.OrderLemmas.{All-at, IsPermutation-in_order, IsUp, IsUp-in_order, IsUp-take, in_order-same, take-put}

-- one more behind the first so many leaves them
take-late : {X : Type 0} (cmp : X → X → Ordering) (n : ℕ) (ys : List X) (x : X) → n ≤ place cmp ys x → take n (put cmp ys x) ≡ take n ys
take-late cmp zero ys x late = refl
take-late cmp (suc n) [] x late = absurd (omega (arith, late))
take-late cmp (suc n) (y ∷ ys) x late = go (is_lt (cmp x y)) late (take-late cmp n ys x)
  where
    go : (b : Bool) → suc n ≤ cond b 0 (1 + place cmp ys x) → (n ≤ place cmp ys x → take n (put cmp ys x) ≡ take n ys)
        → take (suc n) (cond b (x ∷ y ∷ ys) (y ∷ put cmp ys x)) ≡ y ∷ take n ys
    go true late more = absurd (omega (arith, late))
    go false late more = ap (λ zs. y ∷ zs) (more (omega (arith, late)))

-- one more at the end of what was put in order
in_order-push : {X : Type 0} (cmp : X → X → Ordering) (xs : List X) (x : X) → in_order cmp (xs ++ x ∷ []) ≡ put cmp (in_order cmp xs) x
in_order-push cmp xs x = fold_push (put cmp) [] xs x

pub length-in_order : {X : Type 0} (cmp : X → X → Ordering) (xs : List X) → length (in_order cmp xs) ≡ length xs
length-in_order cmp xs = length_permutation xs (in_order cmp xs) (IsPermutation-in_order cmp xs)

-- where the first so many are those of another list, they still are with one more in both
pub first-push : {X : Type 0} (cmp : X → X → Ordering) (n : ℕ) (xs ys : List X) (x : X) → take n (in_order cmp xs) ≡ take n (in_order cmp ys)
    → take n (in_order cmp (xs ++ x ∷ [])) ≡ take n (in_order cmp (ys ++ x ∷ []))
first-push cmp n xs ys x same =
    ap (take n) (in_order-push cmp xs x) ∙ sym (take-put cmp n (in_order cmp xs) x) ∙ ap (λ zs. take n (put cmp zs x)) same
    ∙ take-put cmp n (in_order cmp ys) x ∙ sym (ap (take n) (in_order-push cmp ys x))

-- what is behind them is left out
pub first-late : {X : Type 0} (cmp : X → X → Ordering) (n : ℕ) (xs : List X) (x : X) → IsBounded cmp n xs → is_lt (cmp x (last_of n xs x)) ≡ false
    → take n (in_order cmp xs) ≡ take n (in_order cmp (xs ++ x ∷ []))
first-late cmp n xs x bounded late = sym (ap (take n) (in_order-push cmp xs x) ∙ take-late cmp n (in_order cmp xs) x (bounded.behind x late))

-- the last of the first so many stays
last-push : {X : Type 0} (n : ℕ) (xs : List X) (y x : X) → n < length xs → get_or (xs ++ y ∷ []) n x ≡ get_or xs n x
last-push n [] y x here = absurd (omega (arith, here))
last-push zero (z ∷ zs) y x here = refl
last-push (suc n) (z ∷ zs) y x here = last-push n zs y x (omega (arith, here))

module _ {X : Type 0} (cmp : X → X → Ordering) (weak : IsStrictWeakOrder (λ x y. is_lt (cmp x y))) where
  -- what is less than one before another is less than that
  less_less : (x y z : X) → is_lt (cmp x y) ≡ true → is_lt (cmp y z) ≡ true → is_lt (cmp x z) ≡ true
  less_less x y z first second = go (is_lt (cmp x z)) refl
    where
      go : (b : Bool) → is_lt (cmp x z) ≡ b → is_lt (cmp x z) ≡ true
      go true e = e
      go false e = absurd (true≢false (sym first ∙ weak.chain x z y e (weak.one_way y z second)))

  -- with one more no place is nearer
  place-put : (ys : List X) (y x : X) → place cmp ys x ≤ place cmp (put cmp ys y) x
  place-put [] y x = omega arith
  place-put (z ∷ zs) y x = go (is_lt (cmp y z)) refl (place-put zs y x)
    where
      before : (b c : Bool) → is_lt (cmp x y) ≡ b → is_lt (cmp x z) ≡ c → is_lt (cmp y z) ≡ true
          → cond c 0 (1 + place cmp zs x) ≤ cond b 0 (1 + cond c 0 (1 + place cmp zs x))
      before true true e f less = omega arith
      before true false e f less = absurd (true≢false (sym (less_less x y z e less) ∙ f))
      before false c e f less = omega arith

      after : (c : Bool) → place cmp zs x ≤ place cmp (put cmp zs y) x → cond c 0 (1 + place cmp zs x) ≤ cond c 0 (1 + place cmp (put cmp zs y) x)
      after true more = omega arith
      after false more = omega (arith, more)

      go : (b : Bool) → is_lt (cmp y z) ≡ b → place cmp zs x ≤ place cmp (put cmp zs y) x → place cmp (z ∷ zs) x ≤ place cmp (cond b (y ∷ z ∷ zs) (z ∷ put cmp zs y)) x
      go true e more = before (is_lt (cmp x y)) (is_lt (cmp x z)) refl refl e
      go false e more = after (is_lt (cmp x z)) more

  -- what is not less than one of a list in order has its place behind it
  place-up : (n : ℕ) (ys : List X) (x d : X) → IsUp cmp weak ys → n < length ys → is_lt (cmp x (get_or ys n d)) ≡ false → suc n ≤ place cmp ys x
  place-up n [] x d up here late = absurd (omega (arith, here))
  place-up zero (y ∷ ys) x d up here late = rw late (omega arith)
  place-up (suc n) (y ∷ ys) x d up here late =
      let above = All-at (λ z. is_lt (cmp z y) ≡ false) ys n d up.0 (omega (arith, here)) in
      let first = weak.chain x (get_or ys n d) y late above in
      let more = place-up n ys x d up.1 (omega (arith, here)) late in
      rw first (omega (arith, more))

  -- the first so many bound what comes, also with one more
  pub IsBounded-push : (n : ℕ) (xs : List X) (y : X) → IsBounded cmp n xs → IsBounded cmp n (xs ++ y ∷ [])
  IsBounded-push n xs y bounded = record {
    enough = omega (arith, bounded.enough, length-append xs (y ∷ []));
    behind = λ x late. behind x late (eqb n 0) refl;
  }
    where
      behind : (x : X) → is_lt (cmp x (get_or (xs ++ y ∷ []) (n - 1) x)) ≡ false → (b : Bool) → eqb n 0 ≡ b → n ≤ place cmp (in_order cmp (xs ++ y ∷ [])) x
      behind x late true none = let zero_is : n ≡ 0 = eqb-true n 0 none in omega (arith, zero_is)
      behind x late false some =
          let more : n ≢ 0 = false-eqb n 0 (sym some) in
          let last = last-push (n - 1) xs y x (omega (arith, bounded.enough, more)) in
          let before = bounded.behind x (subst (λ z. is_lt (cmp x z) ≡ false) last late) in
          rw (in_order-push cmp xs y) (omega (arith, before, place-put (in_order cmp xs) y x))

  -- the first so many alone do
  pub IsBounded-cut : (n : ℕ) (xs : List X) → n ≤ length xs → IsBounded cmp n (take n (in_order cmp xs))
  IsBounded-cut n xs enough = record {
    enough = omega (arith, long);
    behind = λ x late. behind x late (eqb n 0) refl;
  }
    where
      first : List X
      first = take n (in_order cmp xs)

      long : length (take n (in_order cmp xs)) ≡ n
      long = length-take-le n (in_order cmp xs) (omega (arith, enough, length-in_order cmp xs))

      up : IsUp cmp weak (take n (in_order cmp xs))
      up = IsUp-take cmp weak n (in_order cmp xs) (IsUp-in_order cmp weak xs)

      behind : (x : X) → is_lt (cmp x (get_or (take n (in_order cmp xs)) (n - 1) x)) ≡ false → (b : Bool) → eqb n 0 ≡ b → n ≤ place cmp (in_order cmp (take n (in_order cmp xs))) x
      behind x late true none = let zero_is : n ≡ 0 = eqb-true n 0 none in omega (arith, zero_is)
      behind x late false some =
          let more : n ≢ 0 = false-eqb n 0 (sym some) in
          let before = place-up (n - 1) (take n (in_order cmp xs)) x x up (omega (arith, long, more)) late in
          subst (λ zs. n ≤ place cmp zs x) (sym (in_order-same cmp weak (take n (in_order cmp xs)) up)) (omega (arith, before, more))
