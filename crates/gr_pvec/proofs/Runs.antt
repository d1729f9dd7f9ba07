-- Runs of a list from runs of its parts.
use Rattle.std.proofs.Common.{◌≡◌, ◌<◌, ◌≤◌, ◌+◌, ◌-◌, ℕ, List, [], ◌∷◌, ◌++◌, map, length, take, drop, arith, refl, sym, ap, ◌∙◌, suc, append_assoc, length-append}
use Rattle.std.proofs.lemmas.List.{length-map, drop-append-le}
use Rattle.std.specs.Arc.{arc_value}
use Rattle.std.specs.declared.sync.Arc.{Arc}
use Rattle.gr_pvec.specs.Run.{IsRun, IsRunUpTo}

module _ {X : Type 0} where
  pub drop_right : (xs ys : List X) (i n : ℕ) → i ≡ length xs + n → drop i (xs ++ ys) ≡ drop n ys
  drop_right [] ys i n e = rw (let f : i ≡ n = omega arith in f) refl
  drop_right (x ∷ xs) ys i n e = let f : i ≡ suc (length xs + n) = omega arith in rw f (drop_right xs ys (length xs + n) n refl)

  pub take_past : (xs ys : List X) (n m : ℕ) → n ≡ length xs + m → take n (xs ++ ys) ≡ xs ++ take m ys
  take_past [] ys n m e = rw (let f : n ≡ m = omega arith in f) refl
  take_past (x ∷ xs) ys n m e = let f : n ≡ suc (length xs + m) = omega arith in rw f (ap (λ l. x ∷ l) (take_past xs ys (length xs + m) m refl))

  pub run_right : {Y : Type 0} (xs ys : List X) (run : List (Arc X Y)) (i n : ℕ) → i ≡ length xs + n → IsRun run n ys → IsRun run i (xs ++ ys)
  run_right xs ys run i n at r = record {
    has_items = r.has_items;
    within = let w = r.within in omega (arith, w, at, length-append xs ys);
    same =
        drop_right xs ys i n at
        ∙ r.same
        ∙ ap (λ zs. map arc_value run ++ zs) (sym (drop_right xs ys (i + length run) (n + length run) (omega (arith, at))));
  }

  pub run_left : {Y : Type 0} (xs ys : List X) (run : List (Arc X Y)) (i : ℕ) → IsRun run i xs → IsRun run i (xs ++ ys)
  run_left xs ys run i r =
      let w = r.within in
      let begins : i ≤ length xs = omega (arith, w) in
      record {
        has_items = r.has_items;
        within = omega (arith, w, length-append xs ys);
        same =
            drop-append-le i xs ys begins
            ∙ ap (λ zs. zs ++ ys) r.same
            ∙ append_assoc (map arc_value run) (drop (i + length run) xs) ys
            ∙ ap (λ zs. map arc_value run ++ zs) (sym (drop-append-le (i + length run) xs ys w));
      }

  -- a run that ends in time
  pub run_in_time : {Y : Type 0} (whole : List X) (run : List (Arc X Y)) (from to : ℕ) → length run ≤ to - from → from < to → IsRun run from whole → IsRunUpTo run from to whole
  run_in_time {Y = Y} whole run from to le lt r = record {
    has_items = r.has_items;
    within = omega arith;
    same = rw r.same (take_past (map arc_value run) (drop (from + length run) whole) (to - from) (to - (from + length run)) (let m = length-map run (arc_value {X = X} {Z = Y}) in omega arith));
  }
