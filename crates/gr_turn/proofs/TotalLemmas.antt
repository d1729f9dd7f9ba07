-- Numbers added up over the seats.
use Rattle.std.proofs.Common.{◌≡◌, ℕ, zero, suc, ◌+◌, ◌<◌, ◌≤◌, ◌≢◌, List, [], ◌∷◌, ◌++◌, length, set, refl, sym, ap, arith}
use mathlib.Core.Option.{some, some-injective, some-ne-none}
use lib.ListN.{get_elem?}
use Rattle.gr_turn.specs.Inside.Rule.{total}

module _ {A : Type 0} where
  pub there_below : (l : List A) (j : ℕ) (v : A) → get_elem? l j ≡ some v → j < length l
  there_below [] j v e = absurd (some-ne-none v (sym e))
  there_below (x ∷ xs) zero v e = omega arith
  there_below (x ∷ xs) (suc j) v e = omega (arith, there_below xs j v e)

  module _ (g : A → ℕ) where
    pub total-append : (l m : List A) → total g (l ++ m) ≡ total g l + total g m
    total-append [] m = omega arith
    total-append (x ∷ xs) m = omega (arith, total-append xs m)

    pub total-set : (l : List A) (j : ℕ) (v w : A) → get_elem? l j ≡ some v → total g (set l j w) + g v ≡ total g l + g w
    total-set [] j v w e = absurd (some-ne-none v (sym e))
    total-set (x ∷ xs) zero v w e = omega (arith, ap g (some-injective x v e))
    total-set (x ∷ xs) (suc j) v w e = omega (arith, total-set xs j v w e)

    -- one seat has no more than all have
    pub one_within : (l : List A) (j : ℕ) (v : A) → get_elem? l j ≡ some v → g v ≤ total g l
    one_within [] j v e = absurd (some-ne-none v (sym e))
    one_within (x ∷ xs) zero v e = omega (arith, ap g (some-injective x v e))
    one_within (x ∷ xs) (suc j) v e = omega (arith, one_within xs j v e)

    -- two seats have no more than all have
    pub two_within : (l : List A) (j k : ℕ) (v u : A) → k ≢ j → get_elem? l j ≡ some v → get_elem? l k ≡ some u → g v + g u ≤ total g l
    two_within [] j k v u n e d = absurd (some-ne-none v (sym e))
    two_within (x ∷ xs) zero zero v u n e d = absurd (n refl)
    two_within (x ∷ xs) zero (suc k) v u n e d = omega (arith, ap g (some-injective x v e), one_within xs k u d)
    two_within (x ∷ xs) (suc j) zero v u n e d = omega (arith, ap g (some-injective x u d), one_within xs j v e)
    two_within (x ∷ xs) (suc j) (suc k) v u n e d = omega (arith, two_within xs j k v u (λ h. n (ap suc h)) e d)

    -- what every seat has none of adds up to none
    pub none_of_all : (l : List A) → ((j : ℕ) (u : A) → get_elem? l j ≡ some u → g u ≡ 0) → total g l ≡ 0
    none_of_all [] none = refl
    none_of_all (x ∷ xs) none = omega (arith, none 0 x refl, none_of_all xs (λ j u e. none (suc j) u e))

    -- where the other seats have none, one has all
    pub one_has_all : (l : List A) (id : ℕ) (v : A) → get_elem? l id ≡ some v → ((j : ℕ) (u : A) → j ≢ id → get_elem? l j ≡ some u → g u ≡ 0) → total g l ≡ g v
    one_has_all [] id v e none = absurd (some-ne-none v (sym e))
    one_has_all (x ∷ xs) zero v e none =
        let rest : total g xs ≡ 0 = none_of_all xs (λ j u at. none (suc j) u (λ h. omega arith) at) in omega (arith, ap g (some-injective x v e))
    one_has_all (x ∷ xs) (suc id) v e none =
        let first : g x ≡ 0 = none 0 x (λ h. omega arith) refl in
        let rest : total g xs ≡ g v = one_has_all xs id v e (λ j u n at. none (suc j) u (λ h. n (omega arith)) at) in omega arith
