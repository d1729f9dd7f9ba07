-- The hits of a span, from the first so many in order.
use Rattle.std.proofs.Common.{◌≡◌, ℕ, ◌+◌, ◌-◌, ◌≤◌, min, Bool, true, false, leb, leb-true, leb-false, List, [], drop, length, take, take_all, refl, sym, ap, ◌∙◌, arith}
use Rattle.std.proofs.lemmas.List.{drop-take, drop_all, length-drop, take_min}

-- from a first one to an end are those after the first up to a count
from_first : {X : Type 0} (zs : List X) (first count end : ℕ) → first ≤ length zs → end ≡ min (first + count) (length zs) → drop first (take end zs) ≡ take count (drop first zs)
from_first zs first count end within is =
    let split : end ≡ first + (end - first) = omega arith in
    let rest : end - first ≡ min count (length (drop first zs)) = omega (arith, length-drop first zs) in
    ap (λ n. drop first (take n zs)) split ∙ drop-take first (end - first) zs
    ∙ ap (λ n. take n (drop first zs)) rest ∙ take_min count (drop first zs)

-- where the first is behind the last, there are none
behind_last : {X : Type 0} (zs : List X) (first count end : ℕ) → length zs ≤ first → end ≡ length zs → drop end (take end zs) ≡ take count (drop first zs)
behind_last zs first count end behind is =
    drop_all end (take end zs) (omega (arith, ap length (take_all end zs (omega arith))))
    ∙ sym (ap (take count) (drop_all first zs behind) ∙ take_all count [] (omega arith))

-- a part of a list, of which the first so many are those of another, is that part of the other
pub part_of : {X : Type 0} (ys zs : List X) (first count start end : ℕ) → end ≡ min (first + count) (length zs) → start ≡ min first end → take end ys ≡ take end zs
    → take (end - start) (drop start ys) ≡ take count (drop first zs)
part_of ys zs first count start end is begins same =
    let split : end ≡ start + (end - start) = omega arith in
    sym (drop-take start (end - start) ys) ∙ ap (λ n. drop start (take n ys)) (sym split) ∙ ap (drop start) same ∙ go (leb first (length zs)) refl
  where
    go : (b : Bool) → leb first (length zs) ≡ b → drop start (take end zs) ≡ take count (drop first zs)
    go true e =
        let within = leb-true first (length zs) e in
        let at : start ≡ first = omega arith in
        ap (λ n. drop n (take end zs)) at ∙ from_first zs first count end within is
    go false e =
        let behind = leb-false first (length zs) e in
        let at : start ≡ end = omega arith in
        ap (λ n. drop n (take end zs)) at ∙ behind_last zs first count end (omega arith) (omega arith)
