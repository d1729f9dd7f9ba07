-- What the calls of an index read off its list of segments.
use Rattle.std.proofs.Common.{◌≡◌, ℕ, zero, suc, ◌+◌, ◌-◌, ◌^◌, ◌<◌, ◌≤◌, Bool, true, false, ◌&&◌, cond, eqb, List, [], ◌∷◌, ◌++◌, length, get_or, take, drop, refl, sym, ap, subst, ◌∙◌, append-nil, append_assoc, if◌then◌else◌, ◌⊎◌, inl, inr, arith}
use Rattle.std.specs.List.{All, AllByRecursion, count_by, filter, list_all}
use Rattle.std.proofs.lemmas.List.{drop-append-le, drop_at, drop-drop, get_or_at, length-append, take-append-le, take_all, take_at}
use Rattle.std.proofs.lemmas.Bool.{cases_lt}
use Rattle.std.proofs.lemmas.List.Elements.{recursion_from_All}
use Rattle.std.proofs.lemmas.List.Sums.{length-filter}
use Rattle.gr_postings.specs.Postings.{IsInOrder}
use Rattle.gr_postings.specs.declared.posting.Posting.{Posting}
use Rattle.gr_index.specs.declared.limits.TheConstants.{FOLDED_SEGMENTS, MOST_SEGMENTS}
use Rattle.gr_index.specs.declared.parts.Span.{Span}
use Rattle.gr_index.specs.Levels.{AreLevels, HasPlaces, LevelsFall, Part, Tile, end_of, is_of_level}
use Rattle.gr_index.specs.Ranges.{IsRipe, IsUnripe, before, first_level, fits, goes_up_from, level_after, oldest, swapped, within}
use Rattle.gr_index.specs.Inside.Located.{IsLocated, IsOldest}
use Rattle.gr_index.specs.Inside.Parts.{Held, is_above, part_of, span_of}
use Rattle.gr_index.proofs.LevelLemmas.{CutInThree, count_above_is, count_lower, cut_in_three, filter_of_level, level_bound}
use Rattle.gr_index.proofs.ListLemmas.{all_at, all_both, all_drop, all_every, all_weaker, filter_all}
use Rattle.gr_index.proofs.LocatedLemmas.{fits_at, no_part, tile_cut}
use Rattle.gr_index.proofs.ReplacedLemmas.{all_around, levels_joined}
use Rattle.gr_index.proofs.TileLemmas.{end_from, end_to_next, ends_rise}
use Rattle.gr_index.proofs.UpLemmas.{all_pass}

-- where the ranges end
pub end_stop : (place : ℕ) (parts : List Part) (stop : ℕ) (d : Part) → 0 < stop → stop ≤ length parts → end_of place (take stop parts) ≡ (get_or parts (stop - 1) d).to
end_stop place parts stop d l m =
    let e : (stop - 1) + 1 ≡ stop = omega arith in
    sym (ap (λ n. end_of place (take n parts)) e) ∙ end_to_next place parts (stop - 1) d (omega arith)

pub end_last : (place : ℕ) (parts : List Part) (n : ℕ) (d : Part) → n ≡ length parts → 0 < n → end_of place parts ≡ (get_or parts (n - 1) d).to
end_last place parts n d e l = ap (end_of place) (sym (take_all n parts (omega (arith, e)))) ∙ end_stop place parts n d l (omega (arith, e))

-- a segment's level is below 16, since its end is a number of 64 bits
pub bounded : (parts : List Part) (at : ℕ) (s : Span) → AllByRecursion (λ p. p.from + FOLDED_SEGMENTS ^ p.level ≤ p.to) parts → at < length parts → ((d : Part) → s ≡ span_of (get_or parts at d)) → s.to < 2 ^ 64 → s.level < 16
bounded parts at s w l is b =
    let p = get_or parts at no_part in
    let e = is no_part in
    let to : s.to ≡ p.to = ap (λ (t : Span). t.to) e in
    subst (λ n. n < 16) (sym (ap (λ (t : Span). t.level) e)) (level_bound p.from p.to p.level (all_at (λ q. q.from + FOLDED_SEGMENTS ^ q.level ≤ q.to) parts at no_part l w) (omega (arith, to, b)))

kept_le : {X : Type 0} (p : X → Bool) (xs : List X) → length (filter p xs) ≤ length xs
kept_le p [] = omega arith
kept_le p (x ∷ xs) = by (p x) refl (kept_le p xs)
  where
    by : (t : Bool) → p x ≡ t → length (filter p xs) ≤ length xs → length (filter p (x ∷ xs)) ≤ length (x ∷ xs)
    by true e r = let is : length (filter p (x ∷ xs)) ≡ suc (length (filter p xs)) = ap (λ t. length (cond t (x ∷ filter p xs) (filter p xs))) e in omega (arith, is, r)
    by false e r = let is : length (filter p (x ∷ xs)) ≡ length (filter p xs) = ap (λ t. length (cond t (x ∷ filter p xs) (filter p xs))) e in omega (arith, is, r)

-- whether all are of a level, by their count
count_less : {X : Type 0} (p : X → Bool) (xs : List X) → list_all p xs ≡ false → length (filter p xs) < length xs
count_less p [] h = let e : true ≡ false = h in cc
count_less p (x ∷ xs) h = by (p x) refl (count_less p xs) (kept_le p xs)
  where
    by : (t : Bool) → p x ≡ t → (list_all p xs ≡ false → length (filter p xs) < length xs) → length (filter p xs) ≤ length xs → length (filter p (x ∷ xs)) < length (x ∷ xs)
    by true e r k =
        let is : length (filter p (x ∷ xs)) ≡ suc (length (filter p xs)) = ap (λ t. length (cond t (x ∷ filter p xs) (filter p xs))) e in
        let rest = r (sym (ap (λ t. t && list_all p xs) e) ∙ h) in
        omega (arith, is, rest)
    by false e r k =
        let is : length (filter p (x ∷ xs)) ≡ length (filter p xs) = ap (λ t. length (cond t (x ∷ filter p xs) (filter p xs))) e in
        omega (arith, is, k)

pub too_few : {X : Type 0} (p : X → Bool) (xs : List X) (n : ℕ) (b : Bool) → length xs ≡ n → count_by p xs < n → false ≡ (list_all p xs && b)
too_few p xs n b e l = by (list_all p xs) refl
  where
    by : (t : Bool) → list_all p xs ≡ t → false ≡ (list_all p xs && b)
    by false h = sym (ap (λ t. t && b) h)
    by true h =
        let all = length-filter p xs in
        let same = ap length (filter_all p xs (all_pass p xs h)) in
        absurd (omega (arith, all, same, e, l))

pub enough : {X : Type 0} (p : X → Bool) (xs : List X) (n : ℕ) (b : Bool) → length xs ≡ n → n ≤ count_by p xs → b ≡ (list_all p xs && b)
enough p xs n b e l = by (list_all p xs) refl
  where
    by : (t : Bool) → list_all p xs ≡ t → b ≡ (list_all p xs && b)
    by true h = sym (ap (λ t. t && b) h)
    by false h =
        let all = length-filter p xs in
        let less = count_less p xs h in
        absurd (omega (arith, all, less, e, l))

-- the first of a level stands after those of higher ones
pub first_of_level : (level : ℕ) (parts : List Part) (n : ℕ) → LevelsFall parts → n ≡ count_by (is_above level) parts → 0 < count_by (is_of_level level) parts → (n < length parts) × ((d : Part) → (get_or parts n d).level ≡ level)
first_of_level level parts n f e l = by c.same refl c.are_same
  where
    c : CutInThree level parts
    c = cut_in_three level parts f

    by : (ys : List Part) → c.same ≡ ys → AllByRecursion (λ p. p.level ≡ level) ys → (n < length parts) × ((d : Part) → (get_or parts n d).level ≡ level)
    by [] h a =
        let none = sym (length-filter (is_of_level level) parts) ∙ (ap length (filter_of_level level parts c) ∙ ap length h) in
        absurd (omega (arith, none, l))
    by (y ∷ ys) h a =
        let is : parts ≡ c.higher ++ y ∷ (ys ++ c.lower) = c.parts ∙ ap (λ qs. c.higher ++ (qs ++ c.lower)) h in
        let at : length c.higher ≡ n = sym (e ∙ count_above_is level parts c) in
        let long : length parts ≡ length c.higher + suc (length (ys ++ c.lower)) = ap length is ∙ length-append c.higher (y ∷ (ys ++ c.lower)) in
        (omega (arith, at, long), λ d. ap (λ (p : Part). p.level) (ap (λ qs. get_or qs n d) is ∙ get_or_at c.higher y (ys ++ c.lower) d n at) ∙ a.0)

-- the sixteen oldest of a level stand after those of higher ones
pub oldest_at : (level : ℕ) (parts : List Part) (start stop : ℕ) → LevelsFall parts → start ≡ count_by (is_above level) parts → FOLDED_SEGMENTS ≤ count_by (is_of_level level) parts → stop ≡ start + FOLDED_SEGMENTS → IsOldest level parts start stop
oldest_at level parts start stop f e n s = of (cut_in_three level parts f)
  where
    of : CutInThree level parts → IsOldest level parts start stop
    of c =
        let at : length c.higher ≡ start = sym (e ∙ count_above_is level parts c) in
        let rest = c.same ++ c.lower in
        let many : FOLDED_SEGMENTS ≤ length c.same = let k = sym (length-filter (is_of_level level) parts) ∙ ap length (filter_of_level level parts c) in omega (arith, k, n) in
        let long : length parts ≡ length c.higher + (length c.same + length c.lower) = ap length c.parts ∙ (length-append c.higher rest ∙ ap (λ k. length c.higher + k) (length-append c.same c.lower)) in
        let front : take start parts ≡ c.higher = ap (take start) c.parts ∙ take_at c.higher rest start at in
        let back : drop start parts ≡ rest = ap (drop start) c.parts ∙ drop_at c.higher rest start at in
        let later : drop stop parts ≡ drop FOLDED_SEGMENTS c.same ++ c.lower = ap (λ k. drop k parts) s ∙ (sym (drop-drop FOLDED_SEGMENTS start parts) ∙ (ap (drop FOLDED_SEGMENTS) back ∙ drop-append-le FOLDED_SEGMENTS c.same c.lower many)) in
        let size : stop - start ≡ FOLDED_SEGMENTS = omega (arith, s) in
        record {
          enough = n;
          size = s;
          bound = omega (arith, at, many, long, s);
          oldest = ap (take FOLDED_SEGMENTS) (filter_of_level level parts c) ∙ (sym (take-append-le FOLDED_SEGMENTS c.same c.lower many) ∙ (ap (take FOLDED_SEGMENTS) (sym back) ∙ ap (λ k. take k (drop start parts)) (sym size)));
          higher = subst (AllByRecursion (λ p. level < p.level)) (sym front) c.are_higher;
          lower = subst (AllByRecursion (λ p. p.level ≤ level)) (sym later) (all_both (λ p. p.level ≤ level) (drop FOLDED_SEGMENTS c.same) c.lower (all_drop (λ p. p.level ≤ level) FOLDED_SEGMENTS c.same (all_weaker (λ p. p.level ≡ level) (λ p. p.level ≤ level) (λ p h. omega (arith, h)) c.same c.are_same)) (all_weaker (λ p. p.level < level) (λ p. p.level ≤ level) (λ p h. omega (arith, h)) c.lower c.are_lower));
        }

-- the level of the first of those from one place up to another
pub first_level_at : (parts : List Part) (start stop : ℕ) (d : Part) → start < stop → start < length parts → first_level (take (stop - start) (drop start parts)) ≡ (get_or parts start d).level
first_level_at parts start stop d l n = at parts start n (stop - start) (omega arith)
  where
    at : (ps : List Part) (i : ℕ) → i < length ps → (k : ℕ) → 0 < k → first_level (take k (drop i ps)) ≡ (get_or ps i d).level
    at [] i m k o = absurd (omega (arith, m))
    at (p ∷ ps) zero m zero o = absurd (omega (arith, o))
    at (p ∷ ps) zero m (suc k) o = refl
    at (p ∷ ps) (suc i) m k o = at ps i (omega (arith, m)) k o

pub level_up : (xs ys parts : List Part) (level : ℕ) → level ≡ first_level ys → goes_up_from level xs ys parts ≡ true → level + 1 ≡ level_after xs ys parts
level_up xs ys parts level e h = ap (λ n. n + 1) e ∙ sym (ap (λ t. if t then first_level ys + 1 else first_level ys) (ap (λ n. goes_up_from n xs ys parts) (sym e) ∙ h))

pub level_stays : (xs ys parts : List Part) (level : ℕ) → level ≡ first_level ys → goes_up_from level xs ys parts ≡ false → level ≡ level_after xs ys parts
level_stays xs ys parts level e h = e ∙ sym (ap (λ t. if t then first_level ys + 1 else first_level ys) (ap (λ n. goes_up_from n xs ys parts) (sym e) ∙ h))

-- the ripe range
pub ripe_at : (place level : ℕ) (parts : List Part) (start stop from to : ℕ) → AreLevels place parts → IsOldest level parts start stop → from ≡ end_of place (take start parts) → to ≡ end_of place (take stop parts) → ((k : ℕ) → k < level → count_by (is_of_level k) parts < FOLDED_SEGMENTS) → IsRipe parts from to
ripe_at place level parts start stop from to a o b e low =
    let size = o.size in
    let three = tile_cut place from to parts start stop a.tile (omega (arith, size)) b e in
    record {
      level = level;
      enough = o.enough;
      lowest = low;
      begins = λ p ps h. sym (subst (Tile from) (sym o.oldest ∙ h) three.within).0;
      ends = sym (ap (end_of from) o.oldest ∙ three.ends);
    }

pub ripe_fits : (place level : ℕ) (parts : List Part) (start stop from to : ℕ) → AreLevels place parts → IsOldest level parts start stop → from ≡ end_of place (take start parts) → to ≡ end_of place (take stop parts) → fits from to parts ≡ true
ripe_fits place level [] start stop from to a o b e = let s = o.size in let n = o.bound in absurd (omega (arith, s, n))
ripe_fits place level (q ∷ qs) start stop from to a o b e =
    let parts = q ∷ qs in
    let size = o.size in
    let bound = o.bound in
    let within : start < length parts = omega (arith, size, bound) in
    let more : start + 1 ≤ stop = omega (arith, size) in
    let first = b ∙ end_from place parts start q a.tile within in
    let next = end_to_next place parts start q within in
    let rise = ends_rise place (start + 1) stop parts a.tile more in
    let wide = all_some place parts start q a.tile within in
    fits_at place from to parts start stop a.tile (omega (arith, first, next, rise, wide, e)) within (omega (arith, more)) bound b e
  where
    all_some : (at : ℕ) (ps : List Part) (i : ℕ) (d : Part) → Tile at ps → i < length ps → (get_or ps i d).from < (get_or ps i d).to
    all_some at [] i d t l = absurd (omega (arith, l))
    all_some at (p ∷ ps) zero d t l = t.1
    all_some at (p ∷ ps) (suc i) d t l = all_some p.to ps i d t.2 (omega (arith, l))

pub none_ripe : (parts : List Part) (n top : ℕ) → LevelsFall parts → ((d : Part) → top ≡ (get_or parts 0 d).level) → n ≡ top + 1 → ((k : ℕ) → k < n → count_by (is_of_level k) parts < FOLDED_SEGMENTS) → IsUnripe parts
none_ripe [] n top f t e low = λ k. omega arith
none_ripe (p ∷ ps) n top f t e low = λ k. by k (cases_lt k n)
  where
    by : (k : ℕ) → (k < n) ⊎ (n ≤ k) → count_by (is_of_level k) (p ∷ ps) < FOLDED_SEGMENTS
    by k (inl l) = low k l
    by k (inr l) =
        let first = t no_part in
        let zero_of = count_lower k (p ∷ ps) (omega (arith, first, e, l), all_weaker (λ q. q.level ≤ p.level) (λ q. q.level < k) (λ q h. omega (arith, h, first, e, l)) ps f.0) in
        omega (arith, zero_of)

-- what a swap gives is what is meant
pub swapped_is : (place from to level start stop : ℕ) (parts : List Part) (chunk : List Posting) → IsLocated place from to parts start stop → level ≡ level_after (take start parts) (take (stop - start) (drop start parts)) parts → take start parts ++ part_of (record { level = level; from = from; to = to }) (record { is_chunk = true; postings = chunk }) ∷ [] ++ drop stop parts ≡ swapped from to chunk parts
swapped_is place from to level start stop parts chunk l e =
    let part : ℕ → Part = λ n. record { level = n; from = from; to = to; is_chunk = true; postings = chunk } in
    let made : List Part → List Part → List Part → List Part = λ xs ys zs. xs ++ part (level_after xs ys parts) ∷ [] ++ zs in
    let ys = take (stop - start) (drop start parts) in
    let zs = drop stop parts in
    ap (λ n. take start parts ++ part n ∷ [] ++ zs) e
    ∙ (ap (λ xs. made xs ys zs) (sym l.before)
    ∙ (ap (λ ws. made (before from parts) ws zs) (sym l.within)
    ∙ ap (made (before from parts) (within from to parts)) (sym l.after)))

-- a buffer more, as the newest
pub pushed : (place : ℕ) (parts : List Part) (n : ℕ) (buffer : List Posting) → AreLevels place parts → count_by (is_of_level 0) parts < MOST_SEGMENTS → end_of place parts ≤ n → AllByRecursion (λ p. p.place ≡ n) buffer → IsInOrder buffer → AreLevels place (parts ++ record { level = 0; from = end_of place parts; to = n + 1; is_chunk = false; postings = buffer } ∷ [])
pushed place parts n buffer a room l places order =
    let p : Part = record { level = 0; from = end_of place parts; to = n + 1; is_chunk = false; postings = buffer } in
    let alone = append-nil parts in
    let some : p.from < p.to = omega (arith, l) in
    let wide : p.from + 1 ≤ p.to = omega (arith, l) in
    subst (AreLevels place) (append-nil (parts ++ p ∷ []))
    (levels_joined place parts p []
    (record {
      tile_before = a.tile;
      begins = refl;
      some = some;
      tile_after = tt;
      fall_before = a.older;
      fall_after = tt;
      higher = all_every (λ q. 0 ≤ q.level) (λ q. omega arith) parts;
      lower = tt;
      few = λ level. subst (λ ps. count_by (is_of_level level) ps ≤ MOST_SEGMENTS) (sym alone) (a.few level);
      room = subst (λ ps. count_by (is_of_level 0) ps < MOST_SEGMENTS) (sym alone) room;
    })
    (all_around (λ q. q.from + FOLDED_SEGMENTS ^ q.level ≤ q.to) parts p [] a.wide wide tt)
    (all_around (λ q. 0 < q.level → q.is_chunk ≡ true) parts p [] a.chunks (λ h. absurd (omega (arith, h))) tt)
    (all_around HasPlaces parts p [] a.places (all_weaker (λ q. q.place ≡ n) (λ q. (p.from ≤ q.place) × (q.place < p.to)) (λ q h. (omega (arith, h, l), omega (arith, h))) buffer places) tt)
    (all_around (λ q. IsInOrder q.postings) parts p [] a.order order tt))
