-- Settings by column: lists of the same settings, of which no two have one column, are one list once they rise.
use Rattle.std.proofs.Common.{◌≡◌, ℕ, ◌+◌, ◌≤◌, ◌<◌, zero, suc, Bool, true, false, cond, nat_lt, nat_eq, List, [], ◌∷◌, length, map, get_or, refl, ap, sym, ◌∙◌, arith, subst}
use Rattle.std.proofs.lemmas.Bool.Decides.{nat_tests}
use Rattle.std.proofs.lemmas.List.{length-map}
use Rattle.std.proofs.lemmas.List.Sorted.{Contains-permutation, IsPermutation-cons, IsPermutation-map, IsPermutation-refl, IsPermutation-swap, IsPermutation-sym, IsPermutation-trans}
use Rattle.std.proofs.lemmas.Map.Keys.{IsDistinct-IsPermutation, IsDistinct-from_apart, apart_from_distinct}
use Rattle.std.proofs.lemmas.Option.{slice_get-get_or}
use Rattle.std.specs.List.{AllByRecursion, Contains, IsDistinct, slice_get}
use Rattle.std.specs.List.Sorted.{IsNonDecreasingBy, IsPermutation}
use Rattle.std.specs.Prelude.{Some}
use Rattle.gr_db.specs.Entry.{AreDistinct}
use Rattle.gr_db.specs.Wants.{Setting, by_column, placed}

-- a setting's column
abbrev pub column_of : Setting → ℕ
column_of setting = setting.0.0

-- each element has a number below those of all after it
abbrev IsRising : {X : Type 0} → (X → ℕ) → List X → Type 0
IsRising {X} n xs = (i j : ℕ) (d : X) → i < j → j < length xs → n (get_or xs i d) < n (get_or xs j d)

-- Lists that rise

in_rest : {X : Type 0} (n : X → ℕ) (x : X) (xs : List X) (z : X) → n x < n z → Contains (x ∷ xs) z → Contains xs z
in_rest n x xs z below (zero, within, is) = let same : n x ≡ n z = ap n is in absurd (omega arith)
in_rest n x xs z below (suc k, within, is) = (k, omega arith, is)

above_first : {X : Type 0} (n : X → ℕ) (x : X) (xs : List X) (z : X) → IsRising n (x ∷ xs) → Contains xs z → n x < n z
above_first n x xs z rising (k, within, is) =
    let up : n x < n (get_or xs k z) = rising 0 (suc k) z (omega arith) (omega arith) in
    let same : n (get_or xs k z) ≡ n z = ap n is in omega arith

heads : {X : Type 0} (n : X → ℕ) (x y : X) (xs ys : List X) → IsRising n (x ∷ xs) → IsRising n (y ∷ ys) → Contains (y ∷ ys) x → Contains (x ∷ xs) y → x ≡ y
heads n x y xs ys up_x up_y (zero, within, is) has = sym is
heads n x y xs ys up_x up_y (suc k, within, is) (zero, inside, same) = same
heads n x y xs ys up_x up_y (suc k, within, is) (suc j, inside, same) =
    let one : n y < n x = above_first n y ys x up_y (k, omega arith, is) in
    let other : n x < n y = above_first n x xs y up_x (j, omega arith, same) in
    absurd (omega arith)

later : {X : Type 0} (x : X) (xs : List X) (z : X) → Contains xs z → Contains (x ∷ xs) z
later x xs z (k, within, is) = (suc k, omega arith, is)

nothing : {X : Type 0} (z : X) → Contains [] z → ⊥
nothing z (k, within, is) = omega arith

-- two lists that rise and have the same elements are one
same-rising : {X : Type 0} (n : X → ℕ) (xs ys : List X) → IsRising n xs → IsRising n ys
    → ((z : X) → Contains xs z → Contains ys z) → ((z : X) → Contains ys z → Contains xs z) → xs ≡ ys
same-rising n [] [] up_x up_y to from = refl
same-rising n [] (y ∷ ys) up_x up_y to from = absurd (nothing y (from y (0, omega arith, refl)))
same-rising n (x ∷ xs) [] up_x up_y to from = absurd (nothing x (to x (0, omega arith, refl)))
same-rising {X} n (x ∷ xs) (y ∷ ys) up_x up_y to from =
    let here : x ≡ y = heads n x y xs ys up_x up_y (to x (0, omega arith, refl)) (from y (0, omega arith, refl)) in
    let rest : xs ≡ ys = same-rising n xs ys
    (λ i j d lt within. up_x (suc i) (suc j) d (omega arith) (omega arith))
    (λ i j d lt within. up_y (suc i) (suc j) d (omega arith) (omega arith))
    (λ z has. in_rest n y ys z (let up = above_first n x xs z up_x has in subst (λ (w : X). n w < n z) here up) (to z (later x xs z has)))
    (λ z has. in_rest n x xs z (let up = above_first n y ys z up_y has in subst (λ (w : X). n w < n z) (sym here) up) (from z (later y ys z has))) in
    cc

-- What is placed by its column

abbrev IsUp : List Setting → Type 0
IsUp [] = Unit {0}
IsUp (first ∷ others) = AllByRecursion (λ other. column_of first ≤ column_of other) others × IsUp others

all-placed : (P : Setting → Type 0) (one : Setting) (others : List Setting) → P one → AllByRecursion P others → AllByRecursion P (placed one others)
all-placed P one [] here all = (here, tt)
all-placed P one (other ∷ others) here all =
    elim (nat_lt one.0.0 other.0.0) as (λ b. AllByRecursion P (cond b (one ∷ other ∷ others) (other ∷ placed one others))) [
      | true ↦ (here, all)
      | false ↦ (all.0, all-placed P one others here all.1)
    ]

weaker : (P Q : Setting → Type 0) (all : (s : Setting) → P s → Q s) (others : List Setting) → AllByRecursion P others → AllByRecursion Q others
weaker P Q step [] all = tt
weaker P Q step (first ∷ others) all = (step first all.0, weaker P Q step others all.1)

up-test : (one other : Setting) (others : List Setting) (b : Bool) → nat_lt one.0.0 other.0.0 ≡ b → IsUp (other ∷ others) → IsUp (placed one others) → IsUp (cond b (one ∷ other ∷ others) (other ∷ placed one others))
up-test one other others true is up rest =
    let low : column_of one ≤ column_of other = grind (arith, nat_tests) in
    ((low, weaker (λ s. column_of other ≤ column_of s) (λ s. column_of one ≤ column_of s) (λ s h. omega arith) others up.0), up)
up-test one other others false is up rest =
    let high : column_of other ≤ column_of one = grind (arith, nat_tests) in
    (all-placed (λ s. column_of other ≤ column_of s) one others high up.0, rest)

up-placed : (one : Setting) (others : List Setting) → IsUp others → IsUp (placed one others)
up-placed one [] up = (tt, tt)
up-placed one (other ∷ others) up = up-test one other others (nat_lt one.0.0 other.0.0) refl up (up-placed one others up.1)

up-by_column : (settings : List Setting) → IsUp (by_column settings)
up-by_column [] = tt
up-by_column (setting ∷ settings) = up-placed setting (by_column settings) (up-by_column settings)

at-place : (P : Setting → Type 0) (settings : List Setting) (k : ℕ) (d : Setting) → k < length settings → AllByRecursion P settings → P (get_or settings k d)
at-place P [] k d within all = absurd (omega arith)
at-place P (first ∷ settings) zero d within all = all.0
at-place P (first ∷ settings) (suc k) d within all = at-place P settings k d (omega arith) all.1

up-places : (settings : List Setting) → IsUp settings → IsNonDecreasingBy column_of settings
up-places [] up i j d le within = absurd (omega arith)
up-places (first ∷ settings) up zero zero d le within = omega arith
up-places (first ∷ settings) up zero (suc j) d le within = at-place (λ s. column_of first ≤ column_of s) settings j d (omega arith) up.0
up-places (first ∷ settings) up (suc i) zero d le within = absurd (omega arith)
up-places (first ∷ settings) up (suc i) (suc j) d le within = up-places settings up.1 i j d (omega arith) (omega arith)

swapped : (one other : Setting) (others : List Setting) → IsPermutation (one ∷ other ∷ others) (other ∷ one ∷ others)
swapped one other others = IsPermutation-swap (one ∷ other ∷ others) (other ∷ one ∷ others) 0 1 (omega arith) (omega arith) refl

permutation-placed : (one : Setting) (others : List Setting) → IsPermutation (one ∷ others) (placed one others)
permutation-placed one [] = IsPermutation-refl (one ∷ [])
permutation-placed one (other ∷ others) =
    elim (nat_lt one.0.0 other.0.0) as (λ b. IsPermutation (one ∷ other ∷ others) (cond b (one ∷ other ∷ others) (other ∷ placed one others))) [
      | true ↦ IsPermutation-refl (one ∷ other ∷ others)
      | false ↦ IsPermutation-trans (one ∷ other ∷ others) (other ∷ one ∷ others) (other ∷ placed one others) (swapped one other others) (IsPermutation-cons other (one ∷ others) (placed one others) (permutation-placed one others))
    ]

permutation-by_column : (settings : List Setting) → IsPermutation settings (by_column settings)
permutation-by_column [] = IsPermutation-refl []
permutation-by_column (setting ∷ settings) =
    IsPermutation-trans (setting ∷ settings) (setting ∷ by_column settings) (placed setting (by_column settings))
    (IsPermutation-cons setting settings (by_column settings) (permutation-by_column settings)) (permutation-placed setting (by_column settings))

-- Columns that differ

nat_eq-flips : (x y : ℕ) → nat_eq x y ≡ nat_eq y x
nat_eq-flips x y = grind (arith, nat_tests)

get_or-map : {X Y : Type 0} (n : X → Y) (xs : List X) (k : ℕ) (d : X) (e : Y) → k < length xs → get_or (map n xs) k e ≡ n (get_or xs k d)
get_or-map n [] k d e within = absurd (omega arith)
get_or-map n (x ∷ xs) zero d e within = refl
get_or-map n (x ∷ xs) (suc k) d e within = get_or-map n xs k d e (omega arith)

length-columns : (settings : List Setting) → length (map column_of settings) ≡ length settings
length-columns [] = refl
length-columns (setting ∷ settings) = ap suc (length-columns settings)

differ-test : (settings : List Setting) → AreDistinct settings → (i j : ℕ) (d : Setting) → i < j → j < length settings
    → (b : Bool) → nat_eq (column_of (get_or settings i d)) (column_of (get_or settings j d)) ≡ b → b ≡ false
differ-test settings distinct i j d lt within false is = refl
differ-test settings distinct i j d lt within true is =
    let same : column_of (get_or settings i d) ≡ column_of (get_or settings j d) = grind (arith, nat_tests) in
    let places : i ≡ j = distinct i j (get_or settings i d) (get_or settings j d) (slice_get-get_or settings i d (omega arith)) (slice_get-get_or settings j d within) same in
    absurd (omega arith)

differ : (settings : List Setting) → AreDistinct settings → (i j : ℕ) (d : Setting) → i < j → j < length settings → nat_eq (column_of (get_or settings i d)) (column_of (get_or settings j d)) ≡ false
differ settings distinct i j d lt within = differ-test settings distinct i j d lt within (nat_eq (column_of (get_or settings i d)) (column_of (get_or settings j d))) refl

columns-differ : (settings : List Setting) → AreDistinct settings → IsDistinct nat_eq (map column_of settings)
columns-differ [] distinct = IsDistinct-from_apart nat_eq [] (λ i j d lt within. absurd (omega arith))
columns-differ (setting ∷ settings) distinct =
    IsDistinct-from_apart nat_eq (map column_of (setting ∷ settings)) (λ i j d lt within.
    let longer : length (map column_of (setting ∷ settings)) ≡ length (setting ∷ settings) = length-columns (setting ∷ settings) in
    let at_i : get_or (map column_of (setting ∷ settings)) i d ≡ column_of (get_or (setting ∷ settings) i setting) = get_or-map column_of (setting ∷ settings) i setting d (omega arith) in
    let at_j : get_or (map column_of (setting ∷ settings)) j d ≡ column_of (get_or (setting ∷ settings) j setting) = get_or-map column_of (setting ∷ settings) j setting d (omega arith) in
    rw (at_i, at_j) (differ (setting ∷ settings) distinct i j setting lt (omega arith)))

rising-from : (settings : List Setting) → IsDistinct nat_eq (map column_of settings) → IsNonDecreasingBy column_of settings → IsRising column_of settings
rising-from settings distinct up i j d lt within =
    let longer : length (map column_of settings) ≡ length settings = length-columns settings in
    let apart : nat_eq (get_or (map column_of settings) i 0) (get_or (map column_of settings) j 0) ≡ false = apart_from_distinct nat_eq (map column_of settings) i j 0 distinct lt (omega arith) in
    let at_i : get_or (map column_of settings) i 0 ≡ column_of (get_or settings i d) = get_or-map column_of settings i d 0 (omega arith) in
    let at_j : get_or (map column_of settings) j 0 ≡ column_of (get_or settings j d) = get_or-map column_of settings j d 0 (omega arith) in
    let low : column_of (get_or settings i d) ≤ column_of (get_or settings j d) = up i j d (omega arith) within in
    let not_same : nat_eq (column_of (get_or settings i d)) (column_of (get_or settings j d)) ≡ false = rw (at_i, at_j) at apart in
    grind (arith, nat_tests)

-- what stands behind references that do not fall by column does not fall
pub up-behind : {X : Type 0} (v : X → Setting) (xs : List X) → IsNonDecreasingBy (λ x. column_of (v x)) xs → IsNonDecreasingBy column_of (map v xs)
up-behind v [] up i j d le within = absurd (omega arith)
up-behind v (x ∷ xs) up i j d le within =
    let longer : length (map v (x ∷ xs)) ≡ length (x ∷ xs) = length-map (x ∷ xs) v in
    let at_i : get_or (map v (x ∷ xs)) i d ≡ v (get_or (x ∷ xs) i x) = get_or-map v (x ∷ xs) i x d (omega arith) in
    let at_j : get_or (map v (x ∷ xs)) j d ≡ v (get_or (x ∷ xs) j x) = get_or-map v (x ∷ xs) j x d (omega arith) in
    let low : column_of (v (get_or (x ∷ xs) i x)) ≤ column_of (v (get_or (x ∷ xs) j x)) = up i j x le (omega arith) in
    rw (at_i, at_j) low

-- settings of distinct columns that were sorted by column stand in the one order by column
pub sorted-by_column : (settings sorted : List Setting) → AreDistinct settings → IsPermutation settings sorted → IsNonDecreasingBy column_of sorted → sorted ≡ by_column settings
sorted-by_column settings sorted distinct permuted up =
    let apart = columns-differ settings distinct in
    let other = permutation-by_column settings in
    same-rising column_of sorted (by_column settings)
    (rising-from sorted (IsDistinct-IsPermutation nat_eq nat_eq-flips (map column_of settings) (map column_of sorted) (IsPermutation-map column_of settings sorted permuted) apart) up)
    (rising-from (by_column settings) (IsDistinct-IsPermutation nat_eq nat_eq-flips (map column_of settings) (map column_of (by_column settings)) (IsPermutation-map column_of settings (by_column settings) other) apart) (up-places (by_column settings) (up-by_column settings)))
    (λ z has. Contains-permutation settings (by_column settings) z other (Contains-permutation sorted settings z (IsPermutation-sym settings sorted permuted) has))
    (λ z has. Contains-permutation settings sorted z permuted (Contains-permutation (by_column settings) settings z (IsPermutation-sym settings (by_column settings) other) has))

-- what holds of each setting holds of each by column
pub all-by_column : (P : Setting → Type 0) (settings : List Setting) → AllByRecursion P settings → AllByRecursion P (by_column settings)
all-by_column P [] all = tt
all-by_column P (setting ∷ settings) all = all-placed P setting (by_column settings) all.0 (all-by_column P settings all.1)
