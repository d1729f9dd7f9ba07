-- Wants that are gathered one by one.
use Rattle.std.proofs.Common.{◌≡◌, ℕ, ◌+◌, ◌<◌, zero, suc, Bool, true, false, cond, List, [], ◌∷◌, ◌++◌, filter, length, map, take, get_or, refl, ap, sym, ◌∙◌, arith}
use Rattle.std.proofs.lemmas.List.{append-nil, append_assoc, take_more}
use Rattle.std.proofs.lemmas.List.Concat.{flat_map-append}
use Rattle.std.proofs.lemmas.List.Elements.{filter-append}
use Rattle.std.specs.List.{AllByRecursion, flat_map}

one-passed : {X Y : Type 0} (f : X → List Y) (p : X → Bool) (x : X) → flat_map f (filter p (x ∷ [])) ≡ cond (p x) (f x) []
one-passed f p x = elim (p x) as (λ b. flat_map f (cond b (x ∷ []) []) ≡ cond b (f x) []) [ true ↦ append-nil (f x) | false ↦ refl ]

-- what is gathered of the elements that pass, with the next one
pub passed-more : {X Y : Type 0} (f : X → List Y) (p : X → Bool) (init old new : List Y) (xs : List X) (i : ℕ) (d : X) → i < length xs
    → old ≡ init ++ flat_map f (filter p (take i xs)) → new ≡ old ++ cond (p (get_or xs i d)) (f (get_or xs i d)) [] → new ≡ init ++ flat_map f (filter p (take (i + 1) xs))
passed-more f p init old new xs i d within before step =
    let x = get_or xs i d in
    let more : take (i + 1) xs ≡ take i xs ++ x ∷ [] = take_more xs i d within in
    let parts : filter p (take i xs ++ x ∷ []) ≡ filter p (take i xs) ++ filter p (x ∷ []) = filter-append p (take i xs) (x ∷ []) in
    let joined : flat_map f (filter p (take i xs) ++ filter p (x ∷ [])) ≡ flat_map f (filter p (take i xs)) ++ flat_map f (filter p (x ∷ [])) = flat_map-append f (filter p (take i xs)) (filter p (x ∷ [])) in
    step ∙ ap (λ ys. ys ++ cond (p x) (f x) []) before ∙ append_assoc init (flat_map f (filter p (take i xs))) (cond (p x) (f x) [])
    ∙ ap (λ ys. init ++ (flat_map f (filter p (take i xs)) ++ ys)) (sym (one-passed f p x))
    ∙ ap (λ ys. init ++ ys) (sym joined)
    ∙ ap (λ ys. init ++ flat_map f ys) (sym parts)
    ∙ ap (λ ys. init ++ flat_map f (filter p ys)) (sym more)

-- what holds of what each element shows holds at a place
pub all-shown-at : {X Y : Type 0} (P : Y → Type 0) (v : X → Y) (xs : List X) (i : ℕ) (d : X) → i < length xs → AllByRecursion P (map v xs) → P (v (get_or xs i d))
all-shown-at P v [] i d within all = absurd (omega arith)
all-shown-at P v (x ∷ xs) zero d within all = all.0
all-shown-at P v (x ∷ xs) (suc i) d within all = all-shown-at P v xs i d (omega arith) all.1
