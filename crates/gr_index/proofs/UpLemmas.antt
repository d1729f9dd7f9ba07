-- The level of a chunk that replaces several segments.
use Rattle.std.proofs.Common.{◌≡◌, ℕ, zero, suc, ◌+◌, ◌-◌, ◌*◌, ◌^◌, ◌<◌, ◌≤◌, Bool, true, false, ◌&&◌, cond, eqb, leb, ltb, List, [], ◌∷◌, ◌++◌, length, get_or, take, drop, refl, sym, ap, subst, ◌∙◌, if◌then◌else◌, lit<, arith}
use Rattle.std.specs.List.{AllByRecursion, count_by, filter, list_all}
use Rattle.std.proofs.Math.Nat.{mul-le-mul_right}
use Rattle.std.proofs.lemmas.Bool.Decides.{nat_tests}
use Rattle.std.proofs.lemmas.List.{drop-take, length-drop, length-take-le, take-append-drop, take-take}
use Rattle.std.proofs.lemmas.List.Sums.{length-filter}
use Rattle.gr_index.specs.declared.limits.TheConstants.{FOLDED_SEGMENTS, MOST_SEGMENTS}
use Rattle.gr_index.specs.declared.parts.Span.{Span}
use Rattle.gr_index.specs.Levels.{AreLevels, LevelsFall, Part, Tile, end_of, is_of_level}
use Rattle.gr_index.specs.Ranges.{first_level, goes_up_from, level_after}
use Rattle.gr_index.specs.Inside.Located.{IsSpanFor}
use Rattle.gr_index.proofs.LevelLemmas.{count_same, falls_before, falls_right, of_level_is, wide_all, wide_up}
use Rattle.gr_index.proofs.ListLemmas.{all_left, all_right, all_two, all_weaker, count-append, filter_all, in_three}
use Rattle.gr_index.proofs.TileLemmas.{end_of-append, tile_left, tile_right, tile_rises}

-- a level that a chunk in place of the second of three lists can have
pub record LevelFits (place level : ℕ) (xs ys zs : List Part) : Type 0 where
  pub higher : AllByRecursion (λ p. level ≤ p.level) xs
  pub lower : AllByRecursion (λ p. p.level ≤ level) zs
  pub room : count_by (is_of_level level) (xs ++ zs) < MOST_SEGMENTS
  pub wide : end_of place xs + FOLDED_SEGMENTS ^ level ≤ end_of place (xs ++ ys)

three_counts : (p : Part → Bool) (xs ys zs : List Part) → count_by p (xs ++ (ys ++ zs)) ≡ count_by p (xs ++ zs) + count_by p ys
three_counts p xs ys zs =
    let a = count-append p xs (ys ++ zs) in
    let b = count-append p ys zs in
    let c = count-append p xs zs in
    omega (arith, a, b, c)

-- the level of the first, which is the highest
stays : (place : ℕ) (xs : List Part) (y : Part) (ys zs : List Part) → AreLevels place (xs ++ (y ∷ ys ++ zs)) → LevelFits place y.level xs (y ∷ ys) zs
stays place xs y ys zs a =
    let rest = tile_right place xs (y ∷ ys ++ zs) a.tile in
    let from : y.from ≡ end_of place xs = rest.0 in
    let rise = tile_rises y.to ys (tile_left y.to ys zs rest.2) in
    let end : end_of place (xs ++ y ∷ ys) ≡ end_of y.to ys = end_of-append place xs (y ∷ ys) in
    let wide = (all_right (λ p. p.from + FOLDED_SEGMENTS ^ p.level ≤ p.to) xs (y ∷ ys ++ zs) a.wide).0 in
    let counts = three_counts (is_of_level y.level) xs (y ∷ ys) zs in
    let first = count-append (is_of_level y.level) (y ∷ []) ys in
    let one : count_by (is_of_level y.level) (y ∷ []) ≡ 1 = count_same y.level (y ∷ []) (refl, tt) in
    let few = a.few y.level in
    record {
      higher = falls_before xs y (ys ++ zs) a.older;
      lower = all_right (λ p. p.level ≤ y.level) ys zs (falls_right xs (y ∷ ys ++ zs) a.older).0;
      room = omega (arith, counts, first, one, few);
      wide = omega (arith, from, rise, end, wide);
    }

-- one level up
pub goes_up : (place level : ℕ) (xs ys zs : List Part) → AreLevels place (xs ++ (ys ++ zs)) → AllByRecursion (λ p. level < p.level) xs → AllByRecursion (λ p. p.level ≡ level) ys → AllByRecursion (λ p. p.level ≤ level) zs → FOLDED_SEGMENTS ≤ length ys → count_by (is_of_level (level + 1)) (xs ++ (ys ++ zs)) < MOST_SEGMENTS → LevelFits place (level + 1) xs ys zs
goes_up place level xs ys zs a h e l n room =
    let rest = tile_left (end_of place xs) ys zs (tile_right place xs (ys ++ zs) a.tile) in
    let wides = all_left (λ p. p.from + FOLDED_SEGMENTS ^ p.level ≤ p.to) ys zs (all_right (λ p. p.from + FOLDED_SEGMENTS ^ p.level ≤ p.to) xs (ys ++ zs) a.wide) in
    let all = wide_all (end_of place xs) level FOLDED_SEGMENTS ys rest e wides in
    let times = mul-le-mul_right (FOLDED_SEGMENTS ^ level) n in
    let power = wide_up level in
    let end = end_of-append place xs ys in
    let counts = three_counts (is_of_level (level + 1)) xs ys zs in
    record {
      higher = all_weaker (λ p. level < p.level) (λ p. level + 1 ≤ p.level) (λ p k. omega (arith, k)) xs h;
      lower = all_weaker (λ p. p.level ≤ level) (λ p. p.level ≤ level + 1) (λ p k. omega (arith, k)) zs l;
      room = omega (arith, counts, room);
      wide = omega (arith, all, times, power, end);
    }

and_left : (a b : Bool) → (a && b) ≡ true → a ≡ true
and_left true b h = refl
and_left false b h = h

and_right : (a b : Bool) → (a && b) ≡ true → b ≡ true
and_right true b h = h
and_right false b h = let e : false ≡ true = h in cc

le_of : (a b : ℕ) → leb a b ≡ true → a ≤ b
le_of a b h = grind (arith, nat_tests)

lt_of : (a b : ℕ) → ltb a b ≡ true → a < b
lt_of a b h = grind (arith, nat_tests)

same_of : (a b : ℕ) → eqb a b ≡ true → a ≡ b
same_of a b h = grind (arith, nat_tests)

differ_of : (a b : ℕ) → eqb a b ≡ false → b ≤ a → b < a
differ_of a b h l = grind (arith, nat_tests)

-- what passes a test where all do, and where none does
pub all_pass : {X : Type 0} (p : X → Bool) (xs : List X) → list_all p xs ≡ true → AllByRecursion (λ x. p x ≡ true) xs
all_pass p [] h = tt
all_pass p (x ∷ xs) h = (and_left (p x) (list_all p xs) h, all_pass p xs (and_right (p x) (list_all p xs) h))

none_pass : {X : Type 0} (p : X → Bool) (xs : List X) → length (filter p xs) ≡ 0 → AllByRecursion (λ x. p x ≡ false) xs
none_pass p [] h = tt
none_pass p (x ∷ xs) h = by (p x) refl (none_pass p xs)
  where
    by : (t : Bool) → p x ≡ t → (length (filter p xs) ≡ 0 → AllByRecursion (λ y. p y ≡ false) xs) → AllByRecursion (λ y. p y ≡ false) (x ∷ xs)
    by true e r = let k : suc (length (filter p xs)) ≡ 0 = sym (ap (λ t. length (cond t (x ∷ filter p xs) (filter p xs))) e) ∙ h in absurd (omega (arith, k))
    by false e r = (e, r (sym (ap (λ t. length (cond t (x ∷ filter p xs) (filter p xs))) e) ∙ h))

-- the level by its definition
pub level_fits : (place : ℕ) (xs ys zs : List Part) → AreLevels place (xs ++ (ys ++ zs)) → 0 < length ys → LevelFits place (level_after xs ys (xs ++ (ys ++ zs))) xs ys zs
level_fits place xs [] zs a n = absurd (omega (arith, n))
level_fits place xs (y ∷ ys) zs a n = by (goes_up_from y.level xs (y ∷ ys) (xs ++ (y ∷ ys ++ zs))) refl
  where
    up : goes_up_from y.level xs (y ∷ ys) (xs ++ (y ∷ ys ++ zs)) ≡ true → LevelFits place (y.level + 1) xs (y ∷ ys) zs
    up e =
        let parts = xs ++ (y ∷ ys ++ zs) in
        let size = leb FOLDED_SEGMENTS (length (y ∷ ys)) in
        let same = list_all (is_of_level y.level) (y ∷ ys) in
        let none = eqb (count_by (is_of_level y.level) xs) 0 in
        let room = ltb (count_by (is_of_level (y.level + 1)) parts) MOST_SEGMENTS in
        let e1 = and_right size (same && (none && room)) e in
        let e2 = and_right same (none && room) e1 in
        let zero_before = length-filter (is_of_level y.level) xs ∙ same_of (count_by (is_of_level y.level) xs) 0 (and_left none room e2) in
        let base = stays place xs y ys zs a in
        goes_up place y.level xs (y ∷ ys) zs a
        (all_two (λ p. y.level ≤ p.level) (λ p. is_of_level y.level p ≡ false) (λ p. y.level < p.level) (λ p l d. differ_of p.level y.level d l) xs base.higher (none_pass (is_of_level y.level) xs zero_before))
        (all_weaker (λ p. is_of_level y.level p ≡ true) (λ p. p.level ≡ y.level) (λ p h. of_level_is y.level p h) (y ∷ ys) (all_pass (is_of_level y.level) (y ∷ ys) (and_left same (none && room) e1)))
        base.lower
        (le_of FOLDED_SEGMENTS (length (y ∷ ys)) (and_left size (same && (none && room)) e))
        (lt_of (count_by (is_of_level (y.level + 1)) parts) MOST_SEGMENTS (and_right none room e2))

    by : (t : Bool) → goes_up_from y.level xs (y ∷ ys) (xs ++ (y ∷ ys ++ zs)) ≡ t → LevelFits place (level_after xs (y ∷ ys) (xs ++ (y ∷ ys ++ zs))) xs (y ∷ ys) zs
    by true e = subst (λ l. LevelFits place l xs (y ∷ ys) zs) (sym (ap (λ t. if t then y.level + 1 else y.level) e)) (up e)
    by false e = subst (λ l. LevelFits place l xs (y ∷ ys) zs) (sym (ap (λ t. if t then y.level + 1 else y.level) e)) (stays place xs y ys zs a)

take_two : {X : Type 0} (i j : ℕ) (xs : List X) → i ≤ j → take i xs ++ take (j - i) (drop i xs) ≡ take j xs
take_two i j xs l =
    let e : i + (j - i) ≡ j = omega arith in
    ap (λ ys. ys ++ take (j - i) (drop i xs)) (sym (take-take i j xs l))
    ∙ (ap (λ ys. take i (take j xs) ++ ys) (sym (drop-take i (j - i) xs) ∙ ap (λ n. drop i (take n xs)) e)
    ∙ take-append-drop i (take j xs))

-- a span of such a level for the segments from one place in the list up to another
pub span_fits : (place from to level : ℕ) (parts : List Part) (start stop : ℕ) → start < stop → stop ≤ length parts → from ≡ end_of place (take start parts) → to ≡ end_of place (take stop parts) → LevelFits place level (take start parts) (take (stop - start) (drop start parts)) (drop stop parts) → IsSpanFor place parts start stop (record { level = level; from = from; to = to })
span_fits place from to level parts start stop o n b e f =
    let wide = f.wide in
    let last = ap (end_of place) (take_two start stop parts (omega (arith, o))) in
    record {
      order = o;
      bound = n;
      begins = b;
      ends = e;
      higher = f.higher;
      lower = f.lower;
      room = f.room;
      wide = omega (arith, wide, last, b, e);
    }

pub span_after : (place from to level : ℕ) (parts : List Part) (start stop : ℕ) → AreLevels place parts → start < stop → stop ≤ length parts → from ≡ end_of place (take start parts) → to ≡ end_of place (take stop parts) → level ≡ level_after (take start parts) (take (stop - start) (drop start parts)) parts → IsSpanFor place parts start stop (record { level = level; from = from; to = to })
span_after place from to level parts start stop a o n b e l =
    let xs = take start parts in
    let ys = take (stop - start) (drop start parts) in
    let zs = drop stop parts in
    let cut = in_three start stop parts (omega (arith, o)) in
    let back = length-drop start parts in
    let long = length-take-le (stop - start) (drop start parts) (omega (arith, back, o, n)) in
    let fits = level_fits place xs ys zs (subst (AreLevels place) cut a) (omega (arith, long, o)) in
    span_fits place from to level parts start stop o n b e (subst (λ k. LevelFits place k xs ys zs) (ap (level_after xs ys) (sym cut) ∙ sym l) fits)
