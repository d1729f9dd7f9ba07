-- The arguments of calls, as parts.
use denote.Param.Weighed.{most}
use Rattle.std.proofs.Common.{◌≡◌, ℕ, ◌<◌, ◌≤◌, ◌-◌, List, [], ◌∷◌, drop, get_or, length, map, take, refl, sym, ap, ◌∙◌, arith}
use Rattle.std.specs.Prelude.{Err}
use Rattle.gr_base.specs.declared.fault.FaultKind.TheVariants.{TypeMismatch}
use Rattle.gr_bind.proofs.Cutting.{rest_whole}
use Rattle.gr_bind.specs.Columns.{fault_at}
use Rattle.gr_bind.specs.Typing.{Part, between}

-- five arguments, one by one
pub five_parts : {X : Type 0} (f : X → Part) (xs : List X) (a b c d e : X) → length xs ≡ 5 → a ≡ get_or xs 0 a → b ≡ get_or xs 1 b → c ≡ get_or xs 2 c → d ≡ get_or xs 3 d → e ≡ get_or xs 4 e
    → f a ∷ f b ∷ f c ∷ f d ∷ f e ∷ [] ≡ map f xs
five_parts f [] a b c d e n p q r s t = absurd (omega (arith, n))
five_parts f (v ∷ []) a b c d e n p q r s t = absurd (omega (arith, n))
five_parts f (v ∷ w ∷ []) a b c d e n p q r s t = absurd (omega (arith, n))
five_parts f (v ∷ w ∷ x ∷ []) a b c d e n p q r s t = absurd (omega (arith, n))
five_parts f (v ∷ w ∷ x ∷ y ∷ []) a b c d e n p q r s t = absurd (omega (arith, n))
five_parts f (v ∷ w ∷ x ∷ y ∷ z ∷ []) a b c d e n p q r s t = cc
five_parts f (v ∷ w ∷ x ∷ y ∷ z ∷ u ∷ xs) a b c d e n p q r s t = absurd (omega (arith, n))

-- other than five
pub other_than_five : {X : Type 0} (f : X → Part) (at : ℕ) (xs : List X) → (length xs ≡ 5 → ⊥) → between at (map f xs) ≡ Err (fault_at TypeMismatch at)
other_than_five f at [] n = refl
other_than_five f at (v ∷ []) n = refl
other_than_five f at (v ∷ w ∷ []) n = refl
other_than_five f at (v ∷ w ∷ x ∷ []) n = refl
other_than_five f at (v ∷ w ∷ x ∷ y ∷ []) n = refl
other_than_five f at (v ∷ w ∷ x ∷ y ∷ z ∷ []) n = absurd (n refl)
other_than_five f at (v ∷ w ∷ x ∷ y ∷ z ∷ u ∷ xs) n = refl

-- the first argument, and those behind it
pub first_and_rest : {X : Type 0} (xs : List X) (a : X) → 0 < length xs → a ≡ get_or xs 0 a → xs ≡ a ∷ take (length xs - 1) (drop 1 xs)
first_and_rest [] a some at = absurd (omega (arith, some))
first_and_rest (x ∷ xs) a some at = ap (λ y. y ∷ xs) (sym at) ∙ ap (λ ys. a ∷ ys) (sym (rest_whole 1 (x ∷ xs)))

-- what is behind the first weighs no more than all
pub rest_weighs : {X : Type 0} (weight : X → ℕ) (xs : List X) → most weight (take (length xs - 1) (drop 1 xs)) ≤ most weight xs
rest_weighs weight [] = omega arith
rest_weighs weight (x ∷ xs) =
    let same : most weight (take (length (x ∷ xs) - 1) (drop 1 (x ∷ xs))) ≡ most weight xs = ap (most weight) (rest_whole 1 (x ∷ xs)) in
    omega (arith, same)

-- none
pub no_arguments : {X : Type 0} (xs : List X) → length xs < 1 → xs ≡ []
no_arguments [] none = refl
no_arguments (x ∷ xs) none = absurd (omega (arith, none))
