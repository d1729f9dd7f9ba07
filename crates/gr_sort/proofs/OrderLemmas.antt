-- Lists put in order one element after the other.
use Rattle.std.proofs.Common.{◌≡◌, ℕ, zero, suc, ◌+◌, ◌<◌, ◌≤◌, Bool, true, false, cond, not, ◌&&◌, List, [], ◌∷◌, ◌++◌, filter, fold, length, get_or, map, take, take-take, append_assoc, append-nil, Ordering, is_lt, refl, sym, ap, subst, ◌∙◌, arith}
use Rattle.std.specs.Cmp.{IsStrictWeakOrder}
use Rattle.std.specs.List.{AllByRecursion}
use Rattle.std.specs.List.Sorted.{IsPermutation, IsSortedBy, ties}
use Rattle.std.proofs.lemmas.List.Sorted.{IsPermutation-append_left, IsPermutation-cons, IsPermutation-middle, IsPermutation-refl, IsPermutation-sym, IsPermutation-trans, sorted_far}
use Rattle.gr_sort.specs.Order.{in_order, put}

-- what holds of all holds of what is weaker
All-weaker : {X : Type 0} (P Q : X → Type 0) → ((x : X) → P x → Q x) → (xs : List X) → AllByRecursion P xs → AllByRecursion Q xs
All-weaker P Q step [] all = tt
All-weaker P Q step (x ∷ xs) all = (step x all.0, All-weaker P Q step xs all.1)

All-take : {X : Type 0} (P : X → Type 0) (n : ℕ) (xs : List X) → AllByRecursion P xs → AllByRecursion P (take n xs)
All-take P zero xs all = tt
All-take P (suc n) [] all = tt
All-take P (suc n) (x ∷ xs) all = (all.0, All-take P n xs all.1)

-- by index, and back
All-each : {X : Type 0} (P : X → Type 0) (xs : List X) → ((k : ℕ) (d : X) → k < length xs → P (get_or xs k d)) → AllByRecursion P xs
All-each P [] each = tt
All-each P (x ∷ xs) each = (each 0 x (omega arith), All-each P xs (λ k d h. each (suc k) d (omega (arith, h))))

pub All-at : {X : Type 0} (P : X → Type 0) (xs : List X) (k : ℕ) (d : X) → AllByRecursion P xs → k < length xs → P (get_or xs k d)
All-at P [] k d all h = absurd (omega (arith, h))
All-at P (x ∷ xs) zero d all h = all.0
All-at P (x ∷ xs) (suc k) d all h = All-at P xs k d all.1 (omega (arith, h))

-- what passes no test is left out
filter-none : {X : Type 0} (p : X → Bool) (xs : List X) → AllByRecursion (λ x. p x ≡ false) xs → filter p xs ≡ []
filter-none p [] none = refl
filter-none p (x ∷ xs) none = ap (λ b. cond b (x ∷ filter p xs) (filter p xs)) none.0 ∙ filter-none p xs none.1

pub filter-first : {X : Type 0} (p : X → Bool) (x : X) (xs : List X) → filter p (x ∷ []) ++ filter p xs ≡ filter p (x ∷ xs)
filter-first p x xs = elim (p x) as (λ b. cond b (x ∷ []) [] ++ filter p xs ≡ cond b (x ∷ filter p xs) (filter p xs)) [ true ↦ refl | false ↦ refl ]

-- the first that passes is one of all
filter-head : {X : Type 0} (P : X → Type 0) (p : X → Bool) (xs : List X) (y : X) (rest : List X) → AllByRecursion P xs → filter p xs ≡ y ∷ rest → P y
filter-head P p [] y rest all e = absurd (cc)
filter-head P p (x ∷ xs) y rest all e = go (p x) (filter-head P p xs y rest all.1) e
  where
    go : (b : Bool) → (filter p xs ≡ y ∷ rest → P y) → cond b (x ∷ filter p xs) (filter p xs) ≡ y ∷ rest → P y
    go true more e = let same : x ≡ y = cc in subst P same all.0
    go false more e = more e

-- two lists from which the same first one is left out, or not
left_same : {X : Type 0} (b : Bool) (y : X) (xs ys : List X) → cond b (y ∷ xs) xs ≡ cond b (y ∷ ys) ys → xs ≡ ys
left_same true y xs ys e = cc
left_same false y xs ys e = e

neither : (p q : Bool) → not p && not q ≡ true → (p ≡ false) × (q ≡ false)
neither true q e = absurd (cc)
neither false true e = absurd (cc)
neither false false e = (refl, refl)

both_no : (p q : Bool) → p ≡ false → q ≡ false → not p && not q ≡ true
both_no p q first second = ap (λ b. not b && not q) first ∙ ap not second

not_both : (b : Bool) → (b ≡ true → true ≡ false) → b ≡ false
not_both true refused = refused refl
not_both false refused = refl

-- one more keeps what the first so many are
pub take-put : {X : Type 0} (cmp : X → X → Ordering) (n : ℕ) (ys : List X) (x : X) → take n (put cmp (take n ys) x) ≡ take n (put cmp ys x)
take-put cmp zero ys x = refl
take-put cmp (suc n) [] x = refl
take-put cmp (suc n) (y ∷ ys) x = go (is_lt (cmp x y)) (take-put cmp n ys x)
  where
    go : (b : Bool) → take n (put cmp (take n ys) x) ≡ take n (put cmp ys x)
        → take (suc n) (cond b (x ∷ y ∷ take n ys) (y ∷ put cmp (take n ys) x)) ≡ take (suc n) (cond b (x ∷ y ∷ ys) (y ∷ put cmp ys x))
    go true more = ap (λ zs. x ∷ zs) (take-take n (suc n) (y ∷ ys) (omega arith))
    go false more = ap (λ zs. y ∷ zs) more

-- elements that are put in order stay the same elements
IsPermutation-put : {X : Type 0} (cmp : X → X → Ordering) (ys : List X) (x : X) → IsPermutation (x ∷ ys) (put cmp ys x)
IsPermutation-put cmp [] x = IsPermutation-refl (x ∷ [])
IsPermutation-put {X} cmp (y ∷ ys) x = go (is_lt (cmp x y)) (IsPermutation-put cmp ys x)
  where
    exchanged : IsPermutation (x ∷ y ∷ ys) (y ∷ x ∷ ys)
    exchanged = IsPermutation-sym (y ∷ x ∷ ys) (x ∷ y ∷ ys) (IsPermutation-middle (y ∷ []) x ys)

    go : (b : Bool) → IsPermutation (x ∷ ys) (put cmp ys x) → IsPermutation (x ∷ y ∷ ys) (cond b (x ∷ y ∷ ys) (y ∷ put cmp ys x))
    go true more = IsPermutation-refl (x ∷ y ∷ ys)
    go false more = IsPermutation-trans (x ∷ y ∷ ys) (y ∷ x ∷ ys) (y ∷ put cmp ys x) exchanged (IsPermutation-cons y (x ∷ ys) (put cmp ys x) more)

IsPermutation-fold : {X : Type 0} (cmp : X → X → Ordering) (xs done : List X) → IsPermutation (done ++ xs) (fold (put cmp) done xs)
IsPermutation-fold cmp [] done = subst (λ ys. IsPermutation ys done) (sym (append-nil done)) (IsPermutation-refl done)
IsPermutation-fold cmp (x ∷ xs) done =
    IsPermutation-trans (done ++ x ∷ xs) (x ∷ (done ++ xs)) (fold (put cmp) (put cmp done x) xs) (IsPermutation-middle done x xs)
    (IsPermutation-trans (x ∷ (done ++ xs)) (put cmp done x ++ xs) (fold (put cmp) (put cmp done x) xs)
    (IsPermutation-append_left xs (x ∷ done) (put cmp done x) (IsPermutation-put cmp done x)) (IsPermutation-fold cmp xs (put cmp done x)))

pub IsPermutation-in_order : {X : Type 0} (cmp : X → X → Ordering) (xs : List X) → IsPermutation xs (in_order cmp xs)
IsPermutation-in_order cmp xs = IsPermutation-fold cmp xs []

-- elements that are shown, and put in order as what they show
map-put : {X Y : Type 0} (cmp : Y → Y → Ordering) (f : X → Y) (ys : List X) (x : X) → map f (put (λ a b. cmp (f a) (f b)) ys x) ≡ put cmp (map f ys) (f x)
map-put cmp f [] x = refl
map-put cmp f (y ∷ ys) x = go (is_lt (cmp (f x) (f y))) (map-put cmp f ys x)
  where
    go : (b : Bool) → map f (put (λ a b. cmp (f a) (f b)) ys x) ≡ put cmp (map f ys) (f x)
        → map f (cond b (x ∷ y ∷ ys) (y ∷ put (λ a b. cmp (f a) (f b)) ys x)) ≡ cond b (f x ∷ f y ∷ map f ys) (f y ∷ put cmp (map f ys) (f x))
    go true more = refl
    go false more = ap (λ zs. f y ∷ zs) more

map-fold : {X Y : Type 0} (cmp : Y → Y → Ordering) (f : X → Y) (xs done : List X) → map f (fold (put (λ a b. cmp (f a) (f b))) done xs) ≡ fold (put cmp) (map f done) (map f xs)
map-fold cmp f [] done = refl
map-fold cmp f (x ∷ xs) done = map-fold cmp f xs (put (λ a b. cmp (f a) (f b)) done x) ∙ ap (λ zs. fold (put cmp) zs (map f xs)) (map-put cmp f done x)

pub map-in_order : {X Y : Type 0} (cmp : Y → Y → Ordering) (f : X → Y) (xs : List X) → map f (in_order (λ a b. cmp (f a) (f b)) xs) ≡ in_order cmp (map f xs)
map-in_order cmp f xs = map-fold cmp f xs []

module _ {X : Type 0} (cmp : X → X → Ordering) (weak : IsStrictWeakOrder (λ x y. is_lt (cmp x y))) where
  abbrev below : X → X → Bool
  below x y = is_lt (cmp x y)

  -- no element is below one before it
  abbrev pub IsUp : List X → Type 0
  IsUp [] = Unit {0}
  IsUp (x ∷ xs) = AllByRecursion (λ y. is_lt (cmp y x) ≡ false) xs × IsUp xs

  not_below : (x : X) → below x x ≡ false
  not_below x = not_both (below x x) (λ e. sym e ∙ weak.one_way x x e)

  All-put : (P : X → Type 0) (ys : List X) (x : X) → AllByRecursion P ys → P x → AllByRecursion P (put cmp ys x)
  All-put P [] x all one = (one, tt)
  All-put P (y ∷ ys) x all one = go (is_lt (cmp x y)) (All-put P ys x all.1 one)
    where
      go : (b : Bool) → AllByRecursion P (put cmp ys x) → AllByRecursion P (cond b (x ∷ y ∷ ys) (y ∷ put cmp ys x))
      go true more = (one, all)
      go false more = (all.0, more)

  IsUp-put : (ys : List X) (x : X) → IsUp ys → IsUp (put cmp ys x)
  IsUp-put [] x up = (tt, tt)
  IsUp-put (y ∷ ys) x up = go (is_lt (cmp x y)) refl (IsUp-put ys x up.1)
    where
      go : (b : Bool) → is_lt (cmp x y) ≡ b → IsUp (put cmp ys x) → IsUp (cond b (x ∷ y ∷ ys) (y ∷ put cmp ys x))
      go true e more =
          ((weak.one_way x y e, All-weaker (λ z. is_lt (cmp z y) ≡ false) (λ z. is_lt (cmp z x) ≡ false) (λ z h. weak.chain z y x h (weak.one_way x y e)) ys up.0), up)
      go false e more = (All-put (λ z. is_lt (cmp z y) ≡ false) ys x up.0 e, more)

  IsUp-fold : (xs done : List X) → IsUp done → IsUp (fold (put cmp) done xs)
  IsUp-fold [] done up = up
  IsUp-fold (x ∷ xs) done up = IsUp-fold xs (put cmp done x) (IsUp-put done x up)

  pub IsUp-in_order : (xs : List X) → IsUp (in_order cmp xs)
  IsUp-in_order xs = IsUp-fold xs [] tt

  pub IsUp-take : (n : ℕ) (xs : List X) → IsUp xs → IsUp (take n xs)
  IsUp-take zero xs up = tt
  IsUp-take (suc n) [] up = tt
  IsUp-take (suc n) (x ∷ xs) up = (All-take (λ y. is_lt (cmp y x) ≡ false) n xs up.0, IsUp-take n xs up.1)

  -- what ties with an element is not above one that is
  not_tied : (a x y z : X) → below x y ≡ true → ties below a x ≡ true → below z y ≡ false → ties below a z ≡ false
  not_tied a x y z less tied not_less =
      not_both (ties below a z)
      (λ also.
      let one = neither (below a x) (below x a) tied in
      let other = neither (below a z) (below z a) also in
      sym less ∙ weak.chain x z y (weak.chain x a z one.1 other.0) not_less)

  filter-put : (a : X) (ys : List X) (x : X) → IsUp ys → filter (ties below a) (put cmp ys x) ≡ filter (ties below a) ys ++ filter (ties below a) (x ∷ [])
  filter-put a [] x up = refl
  filter-put a (y ∷ ys) x up = go (is_lt (cmp x y)) refl (filter-put a ys x up.1)
    where
      p : X → Bool
      p = ties below a

      first : (b : Bool) → is_lt (cmp x y) ≡ true → ties below a x ≡ b
          → cond b (x ∷ filter (ties below a) (y ∷ ys)) (filter (ties below a) (y ∷ ys)) ≡ filter (ties below a) (y ∷ ys) ++ cond b (x ∷ []) []
      first true less tied =
          let none = filter-none (ties below a) (y ∷ ys)
          (not_tied a x y y less tied (not_below y), All-weaker (λ z. is_lt (cmp z y) ≡ false) (λ z. ties below a z ≡ false) (λ z h. not_tied a x y z less tied h) ys up.0) in
          ap (λ zs. x ∷ zs) none ∙ sym (ap (λ zs. zs ++ x ∷ []) none)
      first false less tied = sym (append-nil (filter (ties below a) (y ∷ ys)))

      later : (b : Bool) (with_x rest last : List X) → with_x ≡ rest ++ last → cond b (y ∷ with_x) with_x ≡ cond b (y ∷ rest) rest ++ last
      later true with_x rest last e = ap (λ zs. y ∷ zs) e
      later false with_x rest last e = e

      go : (b : Bool) → is_lt (cmp x y) ≡ b → filter (ties below a) (put cmp ys x) ≡ filter (ties below a) ys ++ filter (ties below a) (x ∷ [])
          → filter (ties below a) (cond b (x ∷ y ∷ ys) (y ∷ put cmp ys x)) ≡ filter (ties below a) (y ∷ ys) ++ filter (ties below a) (x ∷ [])
      go true e more = first (ties below a x) e refl
      go false e more = later (ties below a y) (filter (ties below a) (put cmp ys x)) (filter (ties below a) ys) (filter (ties below a) (x ∷ [])) more

  filter-fold : (a : X) (xs done : List X) → IsUp done → filter (ties below a) (fold (put cmp) done xs) ≡ filter (ties below a) done ++ filter (ties below a) xs
  filter-fold a [] done up = sym (append-nil (filter (ties below a) done))
  filter-fold a (x ∷ xs) done up =
      filter-fold a xs (put cmp done x) (IsUp-put done x up) ∙ ap (λ zs. zs ++ filter (ties below a) xs) (filter-put a done x up)
      ∙ append_assoc (filter (ties below a) done) (filter (ties below a) (x ∷ [])) (filter (ties below a) xs)
      ∙ ap (λ zs. filter (ties below a) done ++ zs) (filter-first (ties below a) x xs)

  -- elements that tie stay in their order
  pub filter-in_order : (a : X) (xs : List X) → filter (ties below a) (in_order cmp xs) ≡ filter (ties below a) xs
  filter-in_order a xs = filter-fold a xs [] tt

  tied_itself : (x : X) → ties below x x ≡ true
  tied_itself x = both_no (below x x) (below x x) (not_below x) (not_below x)

  with_itself : (x : X) (xs : List X) → filter (ties below x) (x ∷ xs) ≡ x ∷ filter (ties below x) xs
  with_itself x xs = ap (λ b. cond b (x ∷ filter (ties below x) xs) (filter (ties below x) xs)) (tied_itself x)

  -- there is one list in order in which elements that tie stay in their order
  pub one_order : (ys zs : List X) → IsUp ys → IsUp zs → ((a : X) → filter (ties below a) ys ≡ filter (ties below a) zs) → ys ≡ zs
  one_order [] [] up also same = refl
  one_order [] (z ∷ zs) up also same = let e : [] ≡ z ∷ filter (ties below z) zs = same z ∙ with_itself z zs in absurd (cc)
  one_order (y ∷ ys) [] up also same = let e : y ∷ filter (ties below y) ys ≡ [] = sym (with_itself y ys) ∙ same y in absurd (cc)
  one_order (y ∷ ys) (z ∷ zs) up also same =
      let first : filter (ties below y) (z ∷ zs) ≡ y ∷ filter (ties below y) ys = sym (same y) ∙ with_itself y ys in
      let second : filter (ties below z) (y ∷ ys) ≡ z ∷ filter (ties below z) zs = same z ∙ with_itself z zs in
      let not_less = filter-head (λ w. below w z ≡ false) (ties below y) (z ∷ zs) y (filter (ties below y) ys) (not_below z, also.0) first in
      let not_more = filter-head (λ w. below w y ≡ false) (ties below z) (y ∷ ys) z (filter (ties below z) zs) (not_below y, up.0) second in
      let kept : filter (ties below y) (z ∷ zs) ≡ z ∷ filter (ties below y) zs =
      ap (λ b. cond b (z ∷ filter (ties below y) zs) (filter (ties below y) zs)) (both_no (below y z) (below z y) not_less not_more) in
      let is : z ≡ y = cc in
      let rest : (a : X) → filter (ties below a) ys ≡ filter (ties below a) zs =
      λ a. left_same (ties below a y) y (filter (ties below a) ys) (filter (ties below a) zs)
      (same a ∙ ap (λ w. cond (ties below a w) (w ∷ filter (ties below a) zs) (filter (ties below a) zs)) is) in
      ap (λ w. y ∷ w) (one_order ys zs up.1 also.1 rest) ∙ ap (λ w. w ∷ zs) (sym is)

  -- a list in order stays
  pub in_order-same : (xs : List X) → IsUp xs → in_order cmp xs ≡ xs
  in_order-same xs up = one_order (in_order cmp xs) xs (IsUp-in_order xs) up (λ a. filter-in_order a xs)

  -- the first so many, put in order once more
  pub in_order-again : (n : ℕ) (xs : List X) → take n (in_order cmp (take n (in_order cmp xs))) ≡ take n (in_order cmp xs)
  in_order-again n xs =
      ap (take n) (in_order-same (take n (in_order cmp xs)) (IsUp-take n (in_order cmp xs) (IsUp-in_order xs))) ∙ take-take n n (in_order cmp xs) (omega arith)

  IsUp-each : (xs : List X) → ((i j : ℕ) (d : X) → i ≤ j → j < length xs → below (get_or xs j d) (get_or xs i d) ≡ false) → IsUp xs
  IsUp-each [] far = tt
  IsUp-each (x ∷ xs) far =
      (All-each (λ y. is_lt (cmp y x) ≡ false) xs (λ k d h. far 0 (suc k) d (omega arith) (omega (arith, h))), IsUp-each xs (λ i j d le h. far (suc i) (suc j) d (omega (arith, le)) (omega (arith, h))))

  -- what a sort says
  pub IsUp-sorted : (xs : List X) → IsSortedBy (λ x y. is_lt (cmp x y)) xs → IsUp xs
  IsUp-sorted xs sorted = IsUp-each xs (sorted_far (λ x y. is_lt (cmp x y)) weak xs sorted)

  -- and back
  IsUp-next : (xs : List X) → IsUp xs → (k : ℕ) (d : X) → suc k < length xs → below (get_or xs (suc k) d) (get_or xs k d) ≡ false
  IsUp-next [] up k d h = absurd (omega (arith, h))
  IsUp-next (x ∷ xs) up zero d h = All-at (λ y. is_lt (cmp y x) ≡ false) xs 0 d up.0 (omega (arith, h))
  IsUp-next (x ∷ xs) up (suc k) d h = IsUp-next xs up.1 k d (omega (arith, h))

  pub sorted-IsUp : (xs : List X) → IsUp xs → IsSortedBy (λ x y. is_lt (cmp x y)) xs
  sorted-IsUp xs up k d low h =
      let next : suc k ≡ k + 1 = omega arith in
      subst (λ n. below (get_or xs n d) (get_or xs k d) ≡ false) next (IsUp-next xs up k d (omega (arith, h)))

  -- a stable sort is that order
  pub in_order-sorted : (xs ys : List X) → IsSortedBy (λ x y. is_lt (cmp x y)) ys → ((a : X) → filter (ties below a) ys ≡ filter (ties below a) xs) → ys ≡ in_order cmp xs
  in_order-sorted xs ys sorted stable = one_order ys (in_order cmp xs) (IsUp-sorted ys sorted) (IsUp-in_order xs) (λ a. stable a ∙ sym (filter-in_order a xs))
