-- Where the segments of a range stand in the list.
use Rattle.std.proofs.Common.{◌≡◌, ℕ, zero, suc, ◌+◌, ◌-◌, ◌<◌, ◌≤◌, Bool, true, false, ◌&&◌, ◌||◌, leb, ltb, eqb, List, [], ◌∷◌, ◌++◌, length, get_or, take, drop, refl, sym, ap, subst, ◌∙◌, append-nil, if◌then◌else◌, arith}
use Rattle.std.specs.List.{AllByRecursion, filter, list_any}
use Rattle.std.proofs.lemmas.Bool.Decides.{nat_tests}
use Rattle.std.proofs.lemmas.List.{drop-take, take-append-drop, take-take}
use Rattle.std.proofs.lemmas.List.Elements.{filter-append}
use Rattle.std.proofs.lemmas.List.Folds.{list_any_at, list_any_more}
use Rattle.gr_index.specs.declared.parts.Span.{Span}
use Rattle.gr_index.specs.Levels.{Part, Tile, end_of}
use Rattle.gr_index.specs.Inside.Parts.{span_of}
use Rattle.gr_index.specs.Ranges.{after, before, begins_at, ends_at, fits, missing, within}
use Rattle.gr_index.specs.Inside.Located.{BeginsAt, EndsBefore, IsLocated}
use Rattle.gr_index.proofs.ListLemmas.{all_both, all_weaker, filter_all, filter_none, in_three}
use Rattle.gr_index.proofs.TileLemmas.{IsBetween, TileInThree, end_from, end_to_next, ends_rise, tile_between, tile_in_three, tile_rises}

le_test : (a b : ℕ) → a ≤ b → leb a b ≡ true
le_test a b l = grind (arith, nat_tests)

gt_test : (a b : ℕ) → b < a → leb a b ≡ false
gt_test a b l = grind (arith, nat_tests)

lt_test : (a b : ℕ) → a < b → ltb a b ≡ true
lt_test a b l = grind (arith, nat_tests)

same_test : (a b : ℕ) → a ≡ b → eqb a b ≡ true
same_test a b e = grind (arith, nat_tests)

both_true : (a b : Bool) → a ≡ true → b ≡ true → (a && b) ≡ true
both_true true b e f = f
both_true false b e f = e

left_false : (a b : Bool) → a ≡ false → (a && b) ≡ false
left_false false b e = refl
left_false true b e = let h : true ≡ false = e in cc

right_false : (a b : Bool) → b ≡ false → (a && b) ≡ false
right_false true b e = e
right_false false b e = refl

-- what a test keeps of three lists
keeps_first : (p : Part → Bool) (xs ys zs : List Part) → AllByRecursion (λ x. p x ≡ true) xs → AllByRecursion (λ x. p x ≡ false) ys → AllByRecursion (λ x. p x ≡ false) zs → filter p (xs ++ (ys ++ zs)) ≡ xs
keeps_first p xs ys zs a b c =
    filter-append p xs (ys ++ zs)
    ∙ (ap (λ qs. qs ++ filter p (ys ++ zs)) (filter_all p xs a)
    ∙ (ap (λ qs. xs ++ qs) (filter_none p (ys ++ zs) (all_both (λ x. p x ≡ false) ys zs b c)) ∙ append-nil xs))

keeps_second : (p : Part → Bool) (xs ys zs : List Part) → AllByRecursion (λ x. p x ≡ false) xs → AllByRecursion (λ x. p x ≡ true) ys → AllByRecursion (λ x. p x ≡ false) zs → filter p (xs ++ (ys ++ zs)) ≡ ys
keeps_second p xs ys zs a b c =
    filter-append p xs (ys ++ zs)
    ∙ (ap (λ qs. qs ++ filter p (ys ++ zs)) (filter_none p xs a)
    ∙ (filter-append p ys zs
    ∙ (ap (λ qs. qs ++ filter p zs) (filter_all p ys b)
    ∙ (ap (λ qs. ys ++ qs) (filter_none p zs c) ∙ append-nil ys))))

keeps_third : (p : Part → Bool) (xs ys zs : List Part) → AllByRecursion (λ x. p x ≡ false) xs → AllByRecursion (λ x. p x ≡ false) ys → AllByRecursion (λ x. p x ≡ true) zs → filter p (xs ++ (ys ++ zs)) ≡ zs
keeps_third p xs ys zs a b c =
    filter-append p xs (ys ++ zs)
    ∙ (ap (λ qs. qs ++ filter p (ys ++ zs)) (filter_none p xs a)
    ∙ (filter-append p ys zs
    ∙ (ap (λ qs. qs ++ filter p zs) (filter_none p ys b) ∙ filter_all p zs c)))

-- the bounds of three lists whose ranges tile
pub record AreBetween (place from to last : ℕ) (xs ys zs : List Part) : Type 0 where
  pub first : AllByRecursion (IsBetween place from) xs
  pub second : AllByRecursion (IsBetween from to) ys
  pub third : AllByRecursion (IsBetween to last) zs

are_between : (place from to : ℕ) (xs ys zs : List Part) → TileInThree place from to xs ys zs → AreBetween place from to (end_of to zs) xs ys zs
are_between place from to xs ys zs t =
    let b = t.begins in
    let e = t.ends in
    record {
      first = tile_between place place from xs t.before (omega arith) (omega (arith, b));
      second = tile_between from from to ys t.within (omega arith) (omega (arith, e));
      third = tile_between to to (end_of to zs) zs t.after (omega arith) (omega arith);
    }

before_is : (place from to last : ℕ) (xs ys zs : List Part) → from < to → AreBetween place from to last xs ys zs → before from (xs ++ (ys ++ zs)) ≡ xs
before_is place from to last xs ys zs l b =
    let p : Part → Bool = λ q. leb q.to from in
    keeps_first p xs ys zs
    (all_weaker (IsBetween place from) (λ q. p q ≡ true) (λ q h. le_test q.to from h.ends) xs b.first)
    (all_weaker (IsBetween from to) (λ q. p q ≡ false) (λ q h. let i = h.begins in let j = h.some in gt_test q.to from (omega (arith, i, j))) ys b.second)
    (all_weaker (IsBetween to last) (λ q. p q ≡ false) (λ q h. let i = h.begins in let j = h.some in gt_test q.to from (omega (arith, i, j, l))) zs b.third)

within_is : (place from to last : ℕ) (xs ys zs : List Part) → from < to → AreBetween place from to last xs ys zs → within from to (xs ++ (ys ++ zs)) ≡ ys
within_is place from to last xs ys zs l b =
    let p : Part → Bool = λ q. leb from q.from && leb q.to to in
    keeps_second p xs ys zs
    (all_weaker (IsBetween place from) (λ q. p q ≡ false) (λ q h. let i = h.some in let j = h.ends in left_false (leb from q.from) (leb q.to to) (gt_test from q.from (omega (arith, i, j)))) xs b.first)
    (all_weaker (IsBetween from to) (λ q. p q ≡ true) (λ q h. both_true (leb from q.from) (leb q.to to) (le_test from q.from h.begins) (le_test q.to to h.ends)) ys b.second)
    (all_weaker (IsBetween to last) (λ q. p q ≡ false) (λ q h. let i = h.begins in let j = h.some in right_false (leb from q.from) (leb q.to to) (gt_test q.to to (omega (arith, i, j)))) zs b.third)

after_is : (place from to last : ℕ) (xs ys zs : List Part) → from < to → AreBetween place from to last xs ys zs → after to (xs ++ (ys ++ zs)) ≡ zs
after_is place from to last xs ys zs l b =
    let p : Part → Bool = λ q. leb to q.from in
    keeps_third p xs ys zs
    (all_weaker (IsBetween place from) (λ q. p q ≡ false) (λ q h. let i = h.some in let j = h.ends in gt_test to q.from (omega (arith, i, j, l))) xs b.first)
    (all_weaker (IsBetween from to) (λ q. p q ≡ false) (λ q h. let i = h.some in let j = h.ends in gt_test to q.from (omega (arith, i, j))) ys b.second)
    (all_weaker (IsBetween to last) (λ q. p q ≡ true) (λ q h. le_test to q.from h.begins) zs b.third)

-- a range fits where a segment begins at its first number and one ends at its second
pub fits_is : (from to : ℕ) (parts : List Part) → from < to → begins_at from parts ≡ true → ends_at to parts ≡ true → fits from to parts ≡ true
fits_is from to parts l b e = both_true (ltb from to) (begins_at from parts && ends_at to parts) (lt_test from to l) (both_true (begins_at from parts) (ends_at to parts) b e)

pub not_ordered : (from to : ℕ) (parts : List Part) → to ≤ from → fits from to parts ≡ false
not_ordered from to parts l = left_false (ltb from to) (begins_at from parts && ends_at to parts) (no from to l)
  where
    no : (a b : ℕ) → b ≤ a → ltb a b ≡ false
    no a b l = grind (arith, nat_tests)

pub no_begin : (from to : ℕ) (parts : List Part) → begins_at from parts ≡ false → (fits from to parts ≡ false) × (from ≡ missing from to parts)
no_begin from to parts h =
    (right_false (ltb from to) (begins_at from parts && ends_at to parts) (left_false (begins_at from parts) (ends_at to parts) h), sym (ap (λ t. if t then to else from) h))

pub no_end : (from to : ℕ) (parts : List Part) → begins_at from parts ≡ true → ends_at to parts ≡ false → (fits from to parts ≡ false) × (to ≡ missing from to parts)
no_end from to parts b h =
    (right_false (ltb from to) (begins_at from parts && ends_at to parts) (right_false (begins_at from parts) (ends_at to parts) h), sym (ap (λ t. if t then to else from) b))

pub begins : (from : ℕ) (parts : List Part) (at : ℕ) → BeginsAt from parts at → begins_at from parts ≡ true
begins from [] at b = let l = b.bound in absurd (omega (arith, l))
begins from (p ∷ ps) at b = list_any_at (λ q. eqb q.from from) (p ∷ ps) at p b.bound (same_test (get_or (p ∷ ps) at p).from from (b.begins p))

pub ends : (to : ℕ) (parts : List Part) (stop : ℕ) → EndsBefore to parts stop → ends_at to parts ≡ true
ends to [] stop b = let l = b.bound in absurd (omega (arith, l))
ends to (p ∷ ps) stop b = list_any_at (λ q. eqb q.to to) (p ∷ ps) b.at p b.bound (same_test (get_or (p ∷ ps) b.at p).to to (b.ends p))

-- where a range begins and ends
pub begins_there : (place from : ℕ) (parts : List Part) (at : ℕ) → Tile place parts → BeginsAt from parts at → from ≡ end_of place (take at parts)
begins_there place from [] at t b = let l = b.bound in absurd (omega (arith, l))
begins_there place from (p ∷ ps) at t b = sym (end_from place (p ∷ ps) at p t b.bound ∙ b.begins p)

pub ends_there : (place to : ℕ) (parts : List Part) (stop : ℕ) → EndsBefore to parts stop → to ≡ end_of place (take stop parts)
ends_there place to [] stop b = let l = b.bound in absurd (omega (arith, l))
ends_there place to (p ∷ ps) stop b = sym (ap (λ n. end_of place (take n (p ∷ ps))) b.is ∙ (end_to_next place (p ∷ ps) b.at p b.bound ∙ b.ends p))

-- ranges that tile are cut by two places in the list
pub tile_cut : (place from to : ℕ) (parts : List Part) (start stop : ℕ) → Tile place parts → start ≤ stop → from ≡ end_of place (take start parts) → to ≡ end_of place (take stop parts) → TileInThree place from to (take start parts) (take (stop - start) (drop start parts)) (drop stop parts)
tile_cut place from to parts start stop t l b e =
    let xs = take start parts in
    let ys = take (stop - start) (drop start parts) in
    let zs = drop stop parts in
    let front : xs ++ ys ≡ take stop parts = take_two start stop parts l in
    tile_in_three place from to xs ys zs (subst (Tile place) (in_three start stop parts l) t) b (e ∙ ap (end_of place) (sym front))
  where
    take_two : (i j : ℕ) (ps : List Part) → i ≤ j → take i ps ++ take (j - i) (drop i ps) ≡ take j ps
    take_two i j ps l =
        let e : i + (j - i) ≡ j = omega arith in
        ap (λ qs. qs ++ take (j - i) (drop i ps)) (sym (take-take i j ps l))
        ∙ (ap (λ qs. take i (take j ps) ++ qs) (sym (drop-take i (j - i) ps) ∙ ap (λ n. drop i (take n ps)) e)
        ∙ take-append-drop i (take j ps))

pub at_places : (place from to : ℕ) (parts : List Part) (start stop : ℕ) → Tile place parts → from < to → start < stop → stop ≤ length parts → fits from to parts ≡ true → from ≡ end_of place (take start parts) → to ≡ end_of place (take stop parts) → IsLocated place from to parts start stop
at_places place from to parts start stop t l o n f at till =
    let xs = take start parts in
    let ys = take (stop - start) (drop start parts) in
    let zs = drop stop parts in
    let cut = in_three start stop parts (omega arith) in
    let b = are_between place from to xs ys zs (tile_cut place from to parts start stop t (omega arith) at till) in
    record {
      order = o;
      bound = n;
      begins = at;
      ends = till;
      fit = f;
      before = ap (before from) cut ∙ before_is place from to (end_of to zs) xs ys zs l b;
      within = ap (within from to) cut ∙ within_is place from to (end_of to zs) xs ys zs l b;
      after = ap (after to) cut ∙ after_is place from to (end_of to zs) xs ys zs l b;
    }

-- the segments of a range stand where it begins and ends
pub located : (place from to : ℕ) (parts : List Part) (start stop : ℕ) → Tile place parts → from < to → BeginsAt from parts start → EndsBefore to parts stop → IsLocated place from to parts start stop
located place from to parts start stop t l b e =
    let at = begins_there place from parts start t b in
    let till = ends_there place to parts stop e in
    at_places place from to parts start stop t l (order (leb stop start) refl at till) (bounded e) (fits_is from to parts l (begins from parts start b) (ends to parts stop e)) at till
  where
    bounded : EndsBefore to parts stop → stop ≤ length parts
    bounded e = let i = e.is in let j = e.bound in omega (arith, i, j)

    no_le : (a b : ℕ) → leb a b ≡ true → a ≤ b
    no_le a b h = grind (arith, nat_tests)

    no_gt : (a b : ℕ) → leb a b ≡ false → b < a
    no_gt a b h = grind (arith, nat_tests)

    order : (b : Bool) → leb stop start ≡ b → from ≡ end_of place (take start parts) → to ≡ end_of place (take stop parts) → start < stop
    order false h at till = no_gt stop start h
    order true h at till = let r = ends_rise place stop start parts t (no_le stop start h) in absurd (omega (arith, r, at, till, l))

-- such places in the list make a range that fits
pub fits_at : (place from to : ℕ) (parts : List Part) (start stop : ℕ) → Tile place parts → from < to → start < length parts → 0 < stop → stop ≤ length parts → from ≡ end_of place (take start parts) → to ≡ end_of place (take stop parts) → fits from to parts ≡ true
fits_at place from to [] start stop t l n k m b e = absurd (omega (arith, n))
fits_at place from to (p ∷ ps) start stop t l n k m b e =
    fits_is from to (p ∷ ps) l
    (list_any_at (λ q. eqb q.from from) (p ∷ ps) start p n (same_test (get_or (p ∷ ps) start p).from from (sym (b ∙ end_from place (p ∷ ps) start p t n))))
    (last (stop - 1) (omega arith) (omega (arith, m, k)))
  where
    last : (i : ℕ) → stop ≡ i + 1 → i < length (p ∷ ps) → ends_at to (p ∷ ps) ≡ true
    last i s j = list_any_at (λ q. eqb q.to to) (p ∷ ps) i p j (same_test (get_or (p ∷ ps) i p).to to (sym (e ∙ (ap (λ x. end_of place (take x (p ∷ ps))) s ∙ end_to_next place (p ∷ ps) i p j))))

-- one segment more that does not begin, or end, at a place
pub no_part : Part
no_part = record { level = 0; from = 0; to = 0; is_chunk = false; postings = [] }

other_test : (a b : ℕ) → (a ≡ b → ⊥) → eqb a b ≡ false
other_test a b n = grind (arith, nat_tests)

neither : (a b : Bool) → a ≡ false → b ≡ false → (a || b) ≡ false
neither false b h k = k
neither true b h k = h

pub none_begins_more : (place : ℕ) (parts : List Part) (i : ℕ) (s : Span) → i < length parts → ((d : Part) → s ≡ span_of (get_or parts i d)) → (s.from ≡ place → ⊥) → begins_at place (take i parts) ≡ false → begins_at place (take (i + 1) parts) ≡ false
none_begins_more place parts i s l is n h =
    let p : Part → Bool = λ q. eqb q.from place in
    list_any_more p parts i no_part l ∙ neither (list_any p (take i parts)) (p (get_or parts i no_part)) h (ap (λ (t : Span). eqb t.from place) (sym (is no_part)) ∙ other_test s.from place n)

pub none_ends_more : (place : ℕ) (parts : List Part) (i : ℕ) (s : Span) → i < length parts → ((d : Part) → s ≡ span_of (get_or parts i d)) → (s.to ≡ place → ⊥) → ends_at place (take i parts) ≡ false → ends_at place (take (i + 1) parts) ≡ false
none_ends_more place parts i s l is n h =
    let p : Part → Bool = λ q. eqb q.to place in
    list_any_more p parts i no_part l ∙ neither (list_any p (take i parts)) (p (get_or parts i no_part)) h (ap (λ (t : Span). eqb t.to place) (sym (is no_part)) ∙ other_test s.to place n)
