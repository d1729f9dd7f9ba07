-- Comparisons of signed values by their bits.
use Rattle.std.proofs.Common.{ℤ, ◌≡◌, not, eqb, refl, sym, ap, ap₂, ◌∙◌, arith}
use mir.Syntax.{w64}
use mir.Val.{SFits, to_z, of_z}
use lib.Signed.{lt_z, le_z}
use Rattle.std.specs.Ordering.{int_cmp, int_eq, is_eq}
use Rattle.std.specs.declared.cmp.Ordering.{Ordering}
use Rattle.std.specs.declared.cmp.Ordering.TheVariants.{Less, Equal, Greater}
use Rattle.std.proofs.lemmas.Bool.Decides.{same_from_decides, Decides-like, Decides-eqb, Decides-int_eq}
use Rattle.std.proofs.lemmas.Int.{to_z-of_z, ints}
use Rattle.gr_base.specs.Compare.{is_met}
use Rattle.gr_base.specs.declared.compare.Cmp.TheVariants.{Eq, Ne, Lt, Le, Gt, Ge}

meets_eq : (o : Ordering) → is_eq o ≡ is_met Eq o
meets_eq Less = refl
meets_eq Equal = refl
meets_eq Greater = refl

meets_ne : (o : Ordering) → not (is_eq o) ≡ is_met Ne o
meets_ne Less = refl
meets_ne Equal = refl
meets_ne Greater = refl

same_bits : (x y : ℤ) → SFits w64 x → SFits w64 y → eqb (of_z w64 x) (of_z w64 y) ≡ int_eq x y
same_bits x y fits other =
    same_from_decides (eqb (of_z w64 x) (of_z w64 y)) (int_eq x y)
    (Decides-like _ (λ e. sym (to_z-of_z w64 x fits) ∙ ap (to_z w64) e ∙ to_z-of_z w64 y other) (λ e. ap (of_z w64) e) (Decides-eqb (of_z w64 x) (of_z w64 y)))
    (Decides-int_eq x y)

pub equal_bits : (x y : ℤ) → SFits w64 x → SFits w64 y → eqb (of_z w64 x) (of_z w64 y) ≡ is_met Eq (int_cmp x y)
equal_bits x y fits other = same_bits x y fits other ∙ meets_eq (int_cmp x y)

pub other_bits : (x y : ℤ) → SFits w64 x → SFits w64 y → not (eqb (of_z w64 x) (of_z w64 y)) ≡ is_met Ne (int_cmp x y)
other_bits x y fits other = ap not (same_bits x y fits other) ∙ meets_ne (int_cmp x y)

lt_met : (x y : ℤ) → lt_z x y ≡ is_met Lt (int_cmp x y)
lt_met x y = grind (arith, ints)

le_met : (x y : ℤ) → le_z x y ≡ is_met Le (int_cmp x y)
le_met x y = grind (arith, ints)

gt_met : (x y : ℤ) → lt_z y x ≡ is_met Gt (int_cmp x y)
gt_met x y = grind (arith, ints)

ge_met : (x y : ℤ) → le_z y x ≡ is_met Ge (int_cmp x y)
ge_met x y = grind (arith, ints)

pub below_bits : (x y : ℤ) → SFits w64 x → SFits w64 y → lt_z (to_z w64 (of_z w64 x)) (to_z w64 (of_z w64 y)) ≡ is_met Lt (int_cmp x y)
below_bits x y fits other = ap₂ lt_z (to_z-of_z w64 x fits) (to_z-of_z w64 y other) ∙ lt_met x y

pub up_to_bits : (x y : ℤ) → SFits w64 x → SFits w64 y → le_z (to_z w64 (of_z w64 x)) (to_z w64 (of_z w64 y)) ≡ is_met Le (int_cmp x y)
up_to_bits x y fits other = ap₂ le_z (to_z-of_z w64 x fits) (to_z-of_z w64 y other) ∙ le_met x y

pub above_bits : (x y : ℤ) → SFits w64 x → SFits w64 y → lt_z (to_z w64 (of_z w64 y)) (to_z w64 (of_z w64 x)) ≡ is_met Gt (int_cmp x y)
above_bits x y fits other = ap₂ lt_z (to_z-of_z w64 y other) (to_z-of_z w64 x fits) ∙ gt_met x y

pub from_bits : (x y : ℤ) → SFits w64 x → SFits w64 y → le_z (to_z w64 (of_z w64 y)) (to_z w64 (of_z w64 x)) ≡ is_met Ge (int_cmp x y)
from_bits x y fits other = ap₂ le_z (to_z-of_z w64 y other) (to_z-of_z w64 x fits) ∙ ge_met x y

pub from_low : (x low : ℤ) → is_met Ge (int_cmp x low) ≡ is_met Le (int_cmp low x)
from_low x low = grind (arith, ints)
