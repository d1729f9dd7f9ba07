-- One segment in place of several: what always holds of an index still holds.
use Rattle.std.proofs.Common.{◌≡◌, ℕ, zero, suc, ◌+◌, ◌-◌, ◌*◌, ◌^◌, ◌<◌, ◌≤◌, Bool, true, false, ◌&&◌, cond, eqb, leb, ltb, List, [], ◌∷◌, ◌++◌, length, get_or, take, drop, refl, sym, ap, subst, ◌∙◌, if◌then◌else◌, lit<, arith}
use Rattle.std.specs.List.{AllByRecursion, count_by, filter, list_all}
use Rattle.std.proofs.Math.Nat.{one-le-pow, mul-le-mul_right}
use Rattle.std.proofs.lemmas.Bool.Decides.{nat_tests}
use Rattle.std.proofs.lemmas.List.{length-append, length-take-le, length-drop, take-append-drop}
use Rattle.std.proofs.lemmas.List.Sums.{length-filter}
use Rattle.gr_postings.specs.Postings.{IsInOrder}
use Rattle.gr_index.specs.declared.limits.TheConstants.{FOLDED_SEGMENTS, MOST_SEGMENTS}
use Rattle.gr_index.specs.declared.parts.Span.{Span}
use Rattle.gr_index.specs.Levels.{AreLevels, HasPlaces, LevelsFall, Part, Tile, end_of, is_of_level}
use Rattle.gr_index.specs.Ranges.{first_level, goes_up_from, level_after}
use Rattle.gr_index.specs.Inside.Located.{IsSpanFor}
use Rattle.gr_index.specs.Inside.Parts.{Held, part_of}
use Rattle.gr_index.proofs.LevelLemmas.{count_higher, count_lower, count_same, falls_before, falls_both, falls_left, falls_right, of_level_is, wide_all, wide_up}
use Rattle.gr_index.proofs.ListLemmas.{all_both, all_drop, all_left, all_right, all_take, all_two, all_weaker, count-append, in_three}
use Rattle.gr_index.proofs.LocatedLemmas.{tile_cut}
use Rattle.gr_index.proofs.TileLemmas.{end_of-append, tile_both, tile_drop, tile_left, tile_right, tile_rises, tile_take}

pub all_around : {X : Type 0} (P : X → Type 0) (xs : List X) (p : X) (ys : List X) → AllByRecursion P xs → P p → AllByRecursion P ys → AllByRecursion P (xs ++ p ∷ [] ++ ys)
all_around P xs p ys a h b = all_both P (xs ++ p ∷ []) ys (all_both P xs (p ∷ []) a (h, tt)) b

pub count_around : (level : ℕ) (xs : List Part) (p : Part) (ys : List Part) → count_by (is_of_level level) (xs ++ p ∷ [] ++ ys) ≡ count_by (is_of_level level) xs + count_by (is_of_level level) (p ∷ []) + count_by (is_of_level level) ys
count_around level xs p ys = count-append (is_of_level level) (xs ++ p ∷ []) ys ∙ ap (λ n. n + count_by (is_of_level level) ys) (count-append (is_of_level level) xs (p ∷ []))

-- a segment between others, whose level has room without it
pub record Joins (place : ℕ) (xs : List Part) (p : Part) (ys : List Part) : Type 0 where
  pub tile_before : Tile place xs
  pub begins : p.from ≡ end_of place xs
  pub some : p.from < p.to
  pub tile_after : Tile p.to ys
  pub fall_before : LevelsFall xs
  pub fall_after : LevelsFall ys
  pub higher : AllByRecursion (λ q. p.level ≤ q.level) xs
  pub lower : AllByRecursion (λ q. q.level ≤ p.level) ys
  pub few : (level : ℕ) → count_by (is_of_level level) (xs ++ ys) ≤ MOST_SEGMENTS
  pub room : count_by (is_of_level p.level) (xs ++ ys) < MOST_SEGMENTS

few_around : (level : ℕ) (xs : List Part) (p : Part) (ys : List Part) (n : ℕ) → count_by (is_of_level level) (xs ++ ys) ≤ n → count_by (is_of_level p.level) (xs ++ ys) < n → count_by (is_of_level level) (xs ++ p ∷ [] ++ ys) ≤ n
few_around level xs p ys n few room = by (eqb p.level level) refl
  where
    same : (a b : ℕ) → eqb a b ≡ true → a ≡ b
    same a b h = grind (arith, nat_tests)

    by : (t : Bool) → eqb p.level level ≡ t → count_by (is_of_level level) (xs ++ p ∷ [] ++ ys) ≤ n
    by true e =
        let one : count_by (is_of_level level) (p ∷ []) ≡ 1 = count_same level (p ∷ []) (same p.level level e, tt) in
        let all = count_around level xs p ys in
        let both = count-append (is_of_level level) xs ys in
        let here = subst (λ l. count_by (is_of_level l) (xs ++ ys) < n) (same p.level level e) room in
        omega (arith, one, all, both, here)
    by false e =
        let none : count_by (is_of_level level) (p ∷ []) ≡ 0 = sym (length-filter (is_of_level level) (p ∷ [])) ∙ ap (λ t. length (cond t (p ∷ []) [])) e in
        let all = count_around level xs p ys in
        let both = count-append (is_of_level level) xs ys in
        omega (arith, none, all, both, few)

pub levels_joined : (place : ℕ) (xs : List Part) (p : Part) (ys : List Part) → Joins place xs p ys
    → AllByRecursion (λ q. q.from + FOLDED_SEGMENTS ^ q.level ≤ q.to) (xs ++ p ∷ [] ++ ys)
    → AllByRecursion (λ q. 0 < q.level → q.is_chunk ≡ true) (xs ++ p ∷ [] ++ ys)
    → AllByRecursion HasPlaces (xs ++ p ∷ [] ++ ys)
    → AllByRecursion (λ q. IsInOrder q.postings) (xs ++ p ∷ [] ++ ys)
    → AreLevels place (xs ++ p ∷ [] ++ ys)
levels_joined place xs p ys j wide chunks places order =
    let front = tile_both place xs (p ∷ []) j.tile_before (j.begins, j.some, tt) in
    let end : end_of place (xs ++ p ∷ []) ≡ p.to = end_of-append place xs (p ∷ []) in
    let falls = falls_both p.level xs (p ∷ []) j.fall_before (tt, tt) j.higher (omega arith, tt) in
    record {
      tile = tile_both place (xs ++ p ∷ []) ys front (subst (λ n. Tile n ys) (sym end) j.tile_after);
      older = falls_both p.level (xs ++ p ∷ []) ys falls j.fall_after (all_both (λ q. p.level ≤ q.level) xs (p ∷ []) j.higher (omega arith, tt)) j.lower;
      few = λ level. few_around level xs p ys MOST_SEGMENTS (j.few level) j.room;
      wide = wide;
      chunks = chunks;
      places = places;
      order = order;
    }

pub falls_take : (n : ℕ) (ps : List Part) → LevelsFall ps → LevelsFall (take n ps)
falls_take n ps f = falls_left (take n ps) (drop n ps) (subst LevelsFall (sym (take-append-drop n ps)) f)

pub falls_drop : (n : ℕ) (ps : List Part) → LevelsFall ps → LevelsFall (drop n ps)
falls_drop n ps f = falls_right (take n ps) (drop n ps) (subst LevelsFall (sym (take-append-drop n ps)) f)

pub count_in_three : (p : Part → Bool) (i j : ℕ) (ps : List Part) → i ≤ j → count_by p ps ≡ count_by p (take i ps) + (count_by p (take (j - i) (drop i ps)) + count_by p (drop j ps))
count_in_three p i j ps l =
    ap (count_by p) (in_three i j ps l)
    ∙ (count-append p (take i ps) (take (j - i) (drop i ps) ++ drop j ps)
    ∙ ap (λ n. count_by p (take i ps) + n) (count-append p (take (j - i) (drop i ps)) (drop j ps)))

pub count_outer : (p : Part → Bool) (i j : ℕ) (ps : List Part) → i ≤ j → count_by p (take i ps ++ drop j ps) ≤ count_by p ps
count_outer p i j ps l =
    let all = count_in_three p i j ps l in
    let both = count-append p (take i ps) (drop j ps) in
    omega (arith, all, both)

-- what always holds of an index holds after a chunk came in place of several segments
pub replaced : (place : ℕ) (parts : List Part) (start stop : ℕ) (span : Span) (held : Held) → AreLevels place parts → IsSpanFor place parts start stop span → held.is_chunk ≡ true → HasPlaces (part_of span held) → IsInOrder held.postings → AreLevels place (take start parts ++ part_of span held ∷ [] ++ drop stop parts)
replaced place parts start stop span held a s chunk places order =
    let xs = take start parts in
    let ys = drop stop parts in
    let p = part_of span held in
    let before : start ≤ stop = let l = s.order in omega (arith, l) in
    let some : span.from < span.to = let w = s.wide in let h = one-le-pow span.level 16 (lit< tt) in omega (arith, w, h) in
    levels_joined place xs p ys
    (record {
      tile_before = tile_take place start parts a.tile;
      begins = s.begins;
      some = some;
      tile_after = subst (λ n. Tile n ys) (sym s.ends) (tile_drop place stop parts a.tile);
      fall_before = falls_take start parts a.older;
      fall_after = falls_drop stop parts a.older;
      higher = s.higher;
      lower = s.lower;
      few = λ level. let h = count_outer (is_of_level level) start stop parts before in let k = a.few level in omega (arith, h, k);
      room = s.room;
    })
    (all_around (λ q. q.from + FOLDED_SEGMENTS ^ q.level ≤ q.to) xs p ys (all_take (λ q. q.from + FOLDED_SEGMENTS ^ q.level ≤ q.to) start parts a.wide) s.wide (all_drop (λ q. q.from + FOLDED_SEGMENTS ^ q.level ≤ q.to) stop parts a.wide))
    (all_around (λ q. 0 < q.level → q.is_chunk ≡ true) xs p ys (all_take (λ q. 0 < q.level → q.is_chunk ≡ true) start parts a.chunks) (λ l. chunk) (all_drop (λ q. 0 < q.level → q.is_chunk ≡ true) stop parts a.chunks))
    (all_around HasPlaces xs p ys (all_take HasPlaces start parts a.places) places (all_drop HasPlaces stop parts a.places))
    (all_around (λ q. IsInOrder q.postings) xs p ys (all_take (λ q. IsInOrder q.postings) start parts a.order) order (all_drop (λ q. IsInOrder q.postings) stop parts a.order))
