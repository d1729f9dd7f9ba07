-- Levels that fall, and how many segments are of each.
use Rattle.std.proofs.Common.{◌≡◌, ℕ, zero, suc, ◌+◌, ◌-◌, ◌*◌, ◌^◌, ◌<◌, ◌≤◌, ◌≢◌, Bool, true, false, cond, eqb, leb, List, [], ◌∷◌, ◌++◌, length, get_or, take, drop, refl, sym, ap, subst, ◌∙◌, append-nil, append_assoc, lit<, arith}
use Rattle.std.specs.List.{AllByRecursion, count_by, filter}
use Rattle.std.specs.Prelude.{nat_eq}
use Rattle.std.proofs.Math.Nat.{one-le-pow, pow-le-pow_right, mul-le-mul_right}
use Rattle.std.proofs.lemmas.Bool.Decides.{nat_tests}
use Rattle.std.proofs.lemmas.List.{length-append, take-append-drop, take-append-le, drop-append-le, take_at, drop_at, drop-drop}
use Rattle.std.proofs.lemmas.List.Elements.{filter-append}
use Rattle.std.proofs.lemmas.List.Sums.{length-filter}
use Rattle.std.proofs.lemmas.Nat.{pow-add}
use Rattle.gr_index.specs.Levels.{Part, LevelsFall, Tile, end_of, is_of_level}
use Rattle.gr_index.specs.Inside.Parts.{is_above}
use Rattle.gr_index.proofs.ListLemmas.{all_both, all_left, all_right, all_two, all_weaker, count-append, filter_all, filter_none}

pub falls_left : (xs ys : List Part) → LevelsFall (xs ++ ys) → LevelsFall xs
falls_left [] ys f = tt
falls_left (x ∷ xs) ys f = (all_left (λ q. q.level ≤ x.level) xs ys f.0, falls_left xs ys f.1)

pub falls_right : (xs ys : List Part) → LevelsFall (xs ++ ys) → LevelsFall ys
falls_right [] ys f = f
falls_right (x ∷ xs) ys f = falls_right xs ys f.1

pub falls_both : (level : ℕ) (xs ys : List Part) → LevelsFall xs → LevelsFall ys → AllByRecursion (λ p. level ≤ p.level) xs → AllByRecursion (λ p. p.level ≤ level) ys → LevelsFall (xs ++ ys)
falls_both level [] ys f g a b = g
falls_both level (x ∷ xs) ys f g a b = let h = a.0 in (
  all_both (λ q. q.level ≤ x.level) xs ys f.0 (all_weaker (λ q. q.level ≤ level) (λ q. q.level ≤ x.level) (λ q l. omega (arith, l, h)) ys b),
  falls_both level xs ys f.1 g a.1 b,
)

-- those before one are of no lower level
pub falls_before : (xs : List Part) (y : Part) (ys : List Part) → LevelsFall (xs ++ y ∷ ys) → AllByRecursion (λ p. y.level ≤ p.level) xs
falls_before [] y ys f = tt
falls_before (x ∷ xs) y ys f = ((all_right (λ q. q.level ≤ x.level) xs (y ∷ ys) f.0).0, falls_before xs y ys f.1)

-- what is of no lower level than this stands before what is of a lower one
pub record Cut (level : ℕ) (ps : List Part) : Type 0 where
  pub high : List Part
  pub low : List Part
  pub parts : ps ≡ high ++ low
  pub higher : AllByRecursion (λ p. level ≤ p.level) high
  pub lower : AllByRecursion (λ p. p.level < level) low

leb_le : (a b : ℕ) → leb a b ≡ true → a ≤ b
leb_le a b h = grind (arith, nat_tests)

leb_gt : (a b : ℕ) → leb a b ≡ false → b < a
leb_gt a b h = grind (arith, nat_tests)

pub cut : (level : ℕ) (ps : List Part) → LevelsFall ps → Cut level ps
cut level [] f = record { high = []; low = []; parts = refl; higher = tt; lower = tt }
cut level (p ∷ ps) f = by (leb level p.level) refl (cut level ps f.1)
  where
    by : (t : Bool) → leb level p.level ≡ t → Cut level ps → Cut level (p ∷ ps)
    by true e rest =
        record { high = p ∷ rest.high; low = rest.low; parts = ap (λ qs. p ∷ qs) rest.parts; higher = (leb_le level p.level e, rest.higher); lower = rest.lower }
    by false e rest =
        let less = leb_gt level p.level e in
        record { high = []; low = p ∷ ps; parts = refl; higher = tt; lower = (less, all_weaker (λ q. q.level ≤ p.level) (λ q. q.level < level) (λ q l. omega (arith, l, less)) ps f.0) }

same_test : (a b : ℕ) → a ≡ b → eqb a b ≡ true
same_test a b e = grind (arith, nat_tests)

higher_test : (a b : ℕ) → b < a → eqb a b ≡ false
higher_test a b l = grind (arith, nat_tests)

lower_test : (a b : ℕ) → a < b → eqb a b ≡ false
lower_test a b l = grind (arith, nat_tests)

above_test : (a b : ℕ) → a < b → leb (suc a) b ≡ true
above_test a b l = grind (arith, nat_tests)

not_above_test : (a b : ℕ) → b ≤ a → leb (suc a) b ≡ false
not_above_test a b l = grind (arith, nat_tests)

pub of_level_is : (level : ℕ) (p : Part) → is_of_level level p ≡ true → p.level ≡ level
of_level_is level p h = same p.level level h
  where
    same : (a b : ℕ) → eqb a b ≡ true → a ≡ b
    same a b h = grind (arith, nat_tests)

-- counts of a level in lists of that level alone, and of others
pub count_same : (level : ℕ) (ps : List Part) → AllByRecursion (λ p. p.level ≡ level) ps → count_by (is_of_level level) ps ≡ length ps
count_same level ps a = sym (length-filter (is_of_level level) ps) ∙ ap length (filter_all (is_of_level level) ps (all_weaker (λ p. p.level ≡ level) (λ p. is_of_level level p ≡ true) (λ p e. same_test p.level level e) ps a))

pub count_higher : (level : ℕ) (ps : List Part) → AllByRecursion (λ p. level < p.level) ps → count_by (is_of_level level) ps ≡ 0
count_higher level ps a = sym (length-filter (is_of_level level) ps) ∙ ap length (filter_none (is_of_level level) ps (all_weaker (λ p. level < p.level) (λ p. is_of_level level p ≡ false) (λ p e. higher_test p.level level e) ps a))

pub count_lower : (level : ℕ) (ps : List Part) → AllByRecursion (λ p. p.level < level) ps → count_by (is_of_level level) ps ≡ 0
count_lower level ps a = sym (length-filter (is_of_level level) ps) ∙ ap length (filter_none (is_of_level level) ps (all_weaker (λ p. p.level < level) (λ p. is_of_level level p ≡ false) (λ p e. lower_test p.level level e) ps a))

-- those of higher levels, those of this level, and those of lower ones
pub record CutInThree (level : ℕ) (ps : List Part) : Type 0 where
  pub higher : List Part
  pub same : List Part
  pub lower : List Part
  pub parts : ps ≡ higher ++ (same ++ lower)
  pub are_higher : AllByRecursion (λ p. level < p.level) higher
  pub are_same : AllByRecursion (λ p. p.level ≡ level) same
  pub are_lower : AllByRecursion (λ p. p.level < level) lower

pub cut_in_three : (level : ℕ) (ps : List Part) → LevelsFall ps → CutInThree level ps
cut_in_three level ps f =
    let first = cut (level + 1) ps f in
    let second = cut level first.low (falls_right first.high first.low (subst LevelsFall first.parts f)) in
    record {
      higher = first.high;
      same = second.high;
      lower = second.low;
      parts = first.parts ∙ ap (λ qs. first.high ++ qs) second.parts;
      are_higher = all_weaker (λ p. level + 1 ≤ p.level) (λ p. level < p.level) (λ p l. omega (arith, l)) first.high first.higher;
      are_same = all_two (λ p. level ≤ p.level) (λ p. p.level < level + 1) (λ p. p.level ≡ level) (λ p l m. omega (arith, l, m)) second.high second.higher (all_left (λ p. p.level < level + 1) second.high second.low (subst (AllByRecursion (λ p. p.level < level + 1)) second.parts first.lower));
      are_lower = second.lower;
    }

pub filter_of_level : (level : ℕ) (ps : List Part) → (c : CutInThree level ps) → filter (is_of_level level) ps ≡ c.same
filter_of_level level ps c =
    let p = is_of_level level in
    ap (filter p) c.parts
    ∙ (filter-append p c.higher (c.same ++ c.lower)
    ∙ (ap (λ qs. qs ++ filter p (c.same ++ c.lower)) (filter_none p c.higher (all_weaker (λ q. level < q.level) (λ q. p q ≡ false) (λ q l. higher_test q.level level l) c.higher c.are_higher))
    ∙ (filter-append p c.same c.lower
    ∙ (ap (λ qs. qs ++ filter p c.lower) (filter_all p c.same (all_weaker (λ q. q.level ≡ level) (λ q. p q ≡ true) (λ q e. same_test q.level level e) c.same c.are_same))
    ∙ (ap (λ qs. c.same ++ qs) (filter_none p c.lower (all_weaker (λ q. q.level < level) (λ q. p q ≡ false) (λ q l. lower_test q.level level l) c.lower c.are_lower))
    ∙ append-nil c.same)))))

pub count_above_is : (level : ℕ) (ps : List Part) → (c : CutInThree level ps) → count_by (is_above level) ps ≡ length c.higher
count_above_is level ps c =
    let p = is_above level in
    let rest = c.same ++ c.lower in
    let no = all_both (λ q. p q ≡ false) c.same c.lower (all_weaker (λ q. q.level ≡ level) (λ q. p q ≡ false) (λ q e. not_above_test level q.level (omega (arith, e))) c.same c.are_same) (all_weaker (λ q. q.level < level) (λ q. p q ≡ false) (λ q l. not_above_test level q.level (omega (arith, l))) c.lower c.are_lower) in
    ap (count_by p) c.parts
    ∙ (sym (length-filter p (c.higher ++ rest))
    ∙ (ap length (filter-append p c.higher rest
    ∙ (ap (λ qs. qs ++ filter p rest) (filter_all p c.higher (all_weaker (λ q. level < q.level) (λ q. p q ≡ true) (λ q l. above_test level q.level l) c.higher c.are_higher))
    ∙ (ap (λ qs. c.higher ++ qs) (filter_none p rest no) ∙ append-nil c.higher)))))

-- segments of one level, each as wide as it must be, are together as wide as their number makes them
pub wide_all : (place level width : ℕ) (ps : List Part) → Tile place ps → AllByRecursion (λ p. p.level ≡ level) ps → AllByRecursion (λ p. p.from + width ^ p.level ≤ p.to) ps → place + length ps * width ^ level ≤ end_of place ps
wide_all place level width [] t a w = omega arith
wide_all place level width (p ∷ ps) t a w =
    let rest = wide_all p.to level width ps t.2 a.1 w.1 in
    let here : p.from + width ^ level ≤ p.to = subst (λ l. p.from + width ^ l ≤ p.to) a.0 w.0 in
    let from = t.0 in
    let more : suc (length ps) * width ^ level ≡ width ^ level + length ps * width ^ level = suc_mul (length ps) (width ^ level) in
    omega (arith, rest, here, from, more)
  where
    suc_mul : (n m : ℕ) → suc n * m ≡ m + n * m
    suc_mul n m = omega arith

pub wide_up : (level : ℕ) → 16 ^ (level + 1) ≡ 16 * 16 ^ level
wide_up level = pow-add 16 level 1 ∙ times (16 ^ level)
  where
    times : (n : ℕ) → n * 16 ≡ 16 * n
    times n = omega arith

-- no number of 64 bits is the end of a segment of level 16
pub level_bound : (from to level : ℕ) → from + 16 ^ level ≤ to → to < 2 ^ 64 → level < 16
level_bound from to level w l = by (leb 16 level) refl
  where
    by : (t : Bool) → leb 16 level ≡ t → level < 16
    by false e = leb_gt 16 level e
    by true e = let h : 16 ^ 16 ≤ 16 ^ level = pow-le-pow_right (lit< tt) (leb_le 16 level e) in absurd (omega (arith, h, w, l))
