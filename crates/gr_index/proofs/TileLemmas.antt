-- Ranges that tile.
use Rattle.std.proofs.Common.{◌≡◌, ℕ, zero, suc, ◌+◌, ◌-◌, ◌<◌, ◌≤◌, List, [], ◌∷◌, ◌++◌, length, get_or, take, drop, refl, sym, ap, subst, ◌∙◌, arith}
use Rattle.std.specs.List.{AllByRecursion}
use Rattle.std.proofs.lemmas.List.{take-append-drop}
use Rattle.gr_index.specs.Levels.{Part, Tile, end_of}
use Rattle.gr_index.proofs.ListLemmas.{in_three}

pub end_of-append : (place : ℕ) (xs ys : List Part) → end_of place (xs ++ ys) ≡ end_of (end_of place xs) ys
end_of-append place [] ys = refl
end_of-append place (x ∷ xs) ys = end_of-append x.to xs ys

pub tile_left : (place : ℕ) (xs ys : List Part) → Tile place (xs ++ ys) → Tile place xs
tile_left place [] ys t = tt
tile_left place (x ∷ xs) ys t = (t.0, t.1, tile_left x.to xs ys t.2)

pub tile_right : (place : ℕ) (xs ys : List Part) → Tile place (xs ++ ys) → Tile (end_of place xs) ys
tile_right place [] ys t = t
tile_right place (x ∷ xs) ys t = tile_right x.to xs ys t.2

pub tile_both : (place : ℕ) (xs ys : List Part) → Tile place xs → Tile (end_of place xs) ys → Tile place (xs ++ ys)
tile_both place [] ys t u = u
tile_both place (x ∷ xs) ys t u = (t.0, t.1, tile_both x.to xs ys t.2 u)

pub tile_rises : (place : ℕ) (xs : List Part) → Tile place xs → place ≤ end_of place xs
tile_rises place [] t = omega arith
tile_rises place (x ∷ xs) t = let h = tile_rises x.to xs t.2 in let e = t.0 in let l = t.1 in omega (arith, h, e, l)

-- a range within these bounds
pub record IsBetween (low high : ℕ) (p : Part) : Type 0 where
  pub begins : low ≤ p.from
  pub some : p.from < p.to
  pub ends : p.to ≤ high

pub tile_between : (place low high : ℕ) (xs : List Part) → Tile place xs → low ≤ place → end_of place xs ≤ high → AllByRecursion (IsBetween low high) xs
tile_between place low high [] t l h = tt
tile_between place low high (x ∷ xs) t l h =
    let rise = tile_rises x.to xs t.2 in
    let e = t.0 in
    let s = t.1 in (
      record { begins = omega (arith, e, l); some = s; ends = omega (arith, rise, h) },
      tile_between x.to low high xs t.2 (omega (arith, e, s, l)) h,
    )

-- where a part of the list ends, by the ranges themselves
pub end_from : (place : ℕ) (xs : List Part) (i : ℕ) (d : Part) → Tile place xs → i < length xs → end_of place (take i xs) ≡ (get_or xs i d).from
end_from place [] i d t l = absurd (omega arith)
end_from place (x ∷ xs) zero d t l = sym t.0
end_from place (x ∷ xs) (suc i) d t l = end_from x.to xs i d t.2 (omega arith)

pub end_to : (place : ℕ) (xs : List Part) (i : ℕ) (d : Part) → i < length xs → end_of place (take (suc i) xs) ≡ (get_or xs i d).to
end_to place [] i d l = absurd (omega arith)
end_to place (x ∷ xs) zero d l = refl
end_to place (x ∷ xs) (suc i) d l = end_to x.to xs i d (omega arith)

pub end_to_next : (place : ℕ) (xs : List Part) (i : ℕ) (d : Part) → i < length xs → end_of place (take (i + 1) xs) ≡ (get_or xs i d).to
end_to_next place xs i d l = let e : i + 1 ≡ suc i = omega arith in ap (λ n. end_of place (take n xs)) e ∙ end_to place xs i d l

pub tile_take : (place : ℕ) (n : ℕ) (xs : List Part) → Tile place xs → Tile place (take n xs)
tile_take place n xs t = tile_left place (take n xs) (drop n xs) (subst (Tile place) (sym (take-append-drop n xs)) t)

pub tile_drop : (place : ℕ) (n : ℕ) (xs : List Part) → Tile place xs → Tile (end_of place (take n xs)) (drop n xs)
tile_drop place n xs t = tile_right place (take n xs) (drop n xs) (subst (Tile place) (sym (take-append-drop n xs)) t)

pub ends_rise : (place : ℕ) (i j : ℕ) (xs : List Part) → Tile place xs → i ≤ j → end_of place (take i xs) ≤ end_of place (take j xs)
ends_rise place zero j xs t l = tile_rises place (take j xs) (tile_take place j xs t)
ends_rise place (suc i) zero xs t l = absurd (omega arith)
ends_rise place (suc i) (suc j) [] t l = omega arith
ends_rise place (suc i) (suc j) (x ∷ xs) t l = ends_rise x.to i j xs t.2 (omega arith)

-- ranges that tile, before one place in the list, from there up to another, and after that
pub record TileInThree (place from to : ℕ) (xs ys zs : List Part) : Type 0 where
  pub before : Tile place xs
  pub begins : end_of place xs ≡ from
  pub within : Tile from ys
  pub ends : end_of from ys ≡ to
  pub after : Tile to zs

pub tile_in_three : (place from to : ℕ) (xs ys zs : List Part) → Tile place (xs ++ (ys ++ zs)) → from ≡ end_of place xs → to ≡ end_of place (xs ++ ys) → TileInThree place from to xs ys zs
tile_in_three place from to xs ys zs t b e =
    let rest = subst (λ n. Tile n (ys ++ zs)) (sym b) (tile_right place xs (ys ++ zs) t) in
    let is : end_of from ys ≡ to = ap (λ n. end_of n ys) b ∙ (sym (end_of-append place xs ys) ∙ sym e) in
    record {
      before = tile_left place xs (ys ++ zs) t;
      begins = sym b;
      within = tile_left from ys zs rest;
      ends = is;
      after = subst (λ n. Tile n zs) is (tile_right from ys zs rest);
    }
