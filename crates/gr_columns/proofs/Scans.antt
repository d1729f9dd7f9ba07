-- Masks over blocks of whole numbers.
use Rattle.std.proofs.Common.{◌≡◌, ◌<◌, ◌≤◌, ◌+◌, ◌*◌, ◌^◌, ℕ, ℤ, pos, negsuc, Bool, true, false, List, length, map, get_or, slice_get, Some, refl, sym, ap, ◌∙◌, subst, arith, bit_and, inl, inr, lit<}
use Rattle.std.specs.Prelude.{◌↔◌, ◌<ℤ◌, ◌≤ℤ◌, if◌then◌else◌, IsBitSet, IsTrue, All}
use mir.Syntax.{w64}
use mir.Val.{SFits}
use lib.IntN.{nat_abs}
use lib.Signed.{lt_z}
use Rattle.std.specs.Int.{bit_at, FitsUnsigned}
use Rattle.std.specs.Cmp.{int_cmp_is, ranks}
use Rattle.std.specs.Ordering.{int_cmp, nat_cmp, MatchOrdering}
use Rattle.std.specs.declared.cmp.Ordering.{Ordering}
use Rattle.std.specs.declared.cmp.Ordering.TheVariants.{Less, Equal, Greater}
use Rattle.std.proofs.lemmas.Bool.{cases_lt, le-ltb}
use Rattle.std.proofs.lemmas.Int.{ints}
use Rattle.std.proofs.lemmas.Nat.{bit_set_by_shift}
use Rattle.std.proofs.lemmas.Nat.Bits.{bit_at_ones, shr_and_one}
use Rattle.std.proofs.lemmas.Option.{get_or_from_slice_get, slice_get_within}
use Rattle.gr_base.specs.Compare.{is_met}
use Rattle.gr_base.specs.declared.compare.Cmp.{Cmp}
use Rattle.gr_lanes.specs.Mask.{IsMask, compares_signed, compares_unsigned}
use Rattle.gr_values.specs.declared.value.Cell.{Cell}
use Rattle.gr_values.specs.Defaults.{default_of}
use Rattle.gr_columns.specs.Cells.{ColumnOf, cell_at}
use Rattle.gr_columns.specs.Masks.{compares_cell, IsBlockMask}
use Rattle.gr_columns.specs.Places.{value_at}
use Rattle.gr_columns.proofs.KeptCells.{at_map}

module _ {V : Type 0} where
  -- the mask of values that all answer alike
  pub mask_all : (passes : V → Bool) (values : List V) (mask : ℕ) (answer : Bool) → length values ≡ 64 → ((place : ℕ) (value : V) → slice_get values place ≡ Some value → passes value ≡ answer) → mask ≡ (if answer then 18446744073709551615 else 0) → IsMask passes values mask
  mask_all passes values mask true size same is = record {
    bits = λ place value got.
        let within : place < 64 = omega (arith, size, slice_get_within values place value got) in
        let one : bit_at mask place ≡ 1 = ap (λ n. bit_at n place) is ∙ bit_at_ones 64 place within in
        let yes = same place value got in
        (λ _. yes, λ _. (bit_set_by_shift mask place).0 (shr_and_one mask place ∙ one));
    higher = rw (size, is) (lit< tt);
  }
  mask_all passes values mask false size same is = record {
    bits = λ place value got.
        let none : bit_and mask (2 ^ place) ≡ 0 = ap (λ n. bit_and n (2 ^ place)) is in
        let no = same place value got in
        (λ given. absurd (given none), λ yes. absurd cc);
    higher = rw (size, is) (lit< tt);
  }

  -- the mask of two tests that answer alike
  pub mask_same : (p q : V → Bool) (values : List V) (mask : ℕ) → ((value : V) → p value ≡ q value) → IsMask p values mask → IsMask q values mask
  mask_same p q values mask same is = record {
    bits = λ place value got. subst (λ b. IsBitSet mask place ↔ IsTrue b) (same value) (is.bits place value got);
    higher = is.higher;
  }

-- how each number of a type stands to one that is outside of it
abbrev outside : ℤ → Ordering
outside (pos n) = Less
outside (negsuc n) = Greater

outside_is : (z : ℤ) → (if lt_z z (pos 0) then Greater else Less) ≡ outside z
outside_is (pos n) = ap (λ b. if b then Greater else Less) (le-ltb n 0 (omega arith))
outside_is (negsuc n) = refl

-- a signed number, compared with one that is outside
signed_outside : (z value : ℤ) → (SFits w64 z → ⊥) → SFits w64 value → int_cmp value z ≡ outside z
signed_outside (pos n) value never fits =
    let large : 2 ^ 63 ≤ n = elim (cases_lt n (2 ^ 63)) as (λ _. 2 ^ 63 ≤ n) [ inl small ↦ absurd (never (record { sfits = small })) | inr large ↦ large ] in
    let below : value <ℤ pos n = omega (arith, ints, large, fits.sfits) in
    sym (int_cmp_is value (pos n) Less below)
signed_outside (negsuc n) value never fits =
    let large : 2 ^ 63 ≤ n = elim (cases_lt n (2 ^ 63)) as (λ _. 2 ^ 63 ≤ n) [ inl small ↦ absurd (never (record { sfits = small })) | inr large ↦ large ] in
    let above : negsuc n <ℤ value = omega (arith, ints, large, fits.sfits) in
    sym (int_cmp_is value (negsuc n) Greater above)

-- a number from 0 on, compared with one that is outside
unsigned_outside : (z : ℤ) (value : ℕ) → (FitsUnsigned w64 z → ⊥) → value < 2 ^ 64 → int_cmp (pos value) z ≡ outside z
unsigned_outside (pos n) value never fits =
    let large : 2 ^ 64 ≤ n = elim (cases_lt n (2 ^ 64)) as (λ _. 2 ^ 64 ≤ n) [ inl small ↦ absurd (never (omega (arith, ints), omega (arith, ints, small))) | inr large ↦ large ] in
    let below : pos value <ℤ pos n = omega (arith, ints, large, fits) in
    sym (int_cmp_is (pos value) (pos n) Less below)
unsigned_outside (negsuc n) value never fits =
    let above : negsuc n <ℤ pos value = omega (arith, ints) in
    sym (int_cmp_is (pos value) (negsuc n) Greater above)

-- the mask of a comparison with a number outside the type
pub signed_err : (cmp : Cmp) (against z : ℤ) (values : List ℤ) (mask : ℕ) → z ≡ against → (SFits w64 z → ⊥) → All (SFits w64) values → length values ≡ 64 → mask ≡ (if is_met cmp (if lt_z z (pos 0) then Greater else Less) then 18446744073709551615 else 0) → IsMask (compares_signed cmp against) values mask
signed_err cmp against z values mask same never fits size is = subst (λ a. IsMask (compares_signed cmp a) values mask) same (mask_all (compares_signed cmp z) values mask (is_met cmp (outside z)) size (λ place value got. ap (is_met cmp) (signed_outside z value never (subst (SFits w64) (get_or_from_slice_get values place value value got) (fits place value (slice_get_within values place value got))))) (is ∙ ap (λ o. if is_met cmp o then 18446744073709551615 else 0) (outside_is z)))

pub unsigned_err : (cmp : Cmp) (against z : ℤ) (values : List ℕ) (mask : ℕ) → z ≡ against → (FitsUnsigned w64 z → ⊥) → All (λ value. value < 2 ^ 64) values → length values ≡ 64 → mask ≡ (if is_met cmp (if lt_z z (pos 0) then Greater else Less) then 18446744073709551615 else 0) → IsMask (λ number. compares_signed cmp against (pos number)) values mask
unsigned_err cmp against z values mask same never fits size is = subst (λ a. IsMask (λ number. compares_signed cmp a (pos number)) values mask) same (mask_all (λ number. compares_signed cmp z (pos number)) values mask (is_met cmp (outside z)) size (λ place value got. ap (is_met cmp) (unsigned_outside z value never (subst (λ n. n < 2 ^ 64) (get_or_from_slice_get values place value value got) (fits place value (slice_get_within values place value got))))) (is ∙ ap (λ o. if is_met cmp o then 18446744073709551615 else 0) (outside_is z)))

-- numbers from 0 on are ordered alike with a sign and without
ranked : (n m : ℕ) (r : Ordering) → MatchOrdering r (n < m) (n ≡ m) (m < n) → MatchOrdering r (pos n <ℤ pos m) (pos n ≡ pos m) (pos m <ℤ pos n)
ranked n m Less is = omega (arith, ints, is)
ranked n m Equal is = ap pos is
ranked n m Greater is = omega (arith, ints, is)

nat_is_int : (n m : ℕ) → nat_cmp n m ≡ int_cmp (pos n) (pos m)
nat_is_int n m = int_cmp_is (pos n) (pos m) (nat_cmp n m) (ranked n m (nat_cmp n m) (ranks n m))

-- a number from 0 on is its own size
size_is : (z : ℤ) → pos 0 ≤ℤ z → pos (nat_abs z) ≡ z
size_is (pos n) low = refl
size_is (negsuc n) low = absurd (omega (arith, ints, low))

-- the mask of a comparison with a number of the type
pub unsigned_ok : (cmp : Cmp) (against z : ℤ) (number : ℕ) (values : List ℕ) (mask : ℕ) → z ≡ against → FitsUnsigned w64 z × (number ≡ nat_abs z) → IsMask (compares_unsigned cmp number) values mask → IsMask (λ value. compares_signed cmp against (pos value)) values mask
unsigned_ok cmp against z number values mask same fits is = subst (λ a. IsMask (λ value. compares_signed cmp a (pos value)) values mask) (ap pos fits.1 ∙ size_is z fits.0.0 ∙ same) (mask_same (compares_unsigned cmp number) (λ value. compares_signed cmp (pos number) (pos value)) values mask (λ value. ap (is_met cmp) (nat_is_int value number)) is)

module _ {X : Type 0} (f : X → Cell) (number : X → ℤ) (made : (x : X) → f x ≡ Cell.Int (number x)) where
  -- the mask of a block's values is that of its cells
  pub block_mask : (column : ColumnOf) (places : X × List X) (block : ℕ) (cmp : Cmp) (against z : ℤ) (values : List X) (mask : ℕ) → column.cells ≡ map f places.1 → default_of column.shape ≡ f places.0 → z ≡ against → length values ≡ 64 → ((place : ℕ) → place < 64 → slice_get values place ≡ Some (value_at places (64 * block + place))) → IsMask (λ x. compares_signed cmp z (number x)) values mask → IsBlockMask column block cmp against mask
  block_mask column places block cmp against z values mask cells default same size each is = record {
    bits = λ place within.
        let at : cell_at column (record { 0 = 64 * block + place }) ≡ Cell.Int (number (value_at places (64 * block + place))) = ap (λ list. get_or list (64 * block + place) (default_of column.shape)) cells ∙ ap (get_or (map f places.1) (64 * block + place)) default ∙ at_map f places (64 * block + place) ∙ made (value_at places (64 * block + place)) in
        let answer : compares_signed cmp z (number (value_at places (64 * block + place))) ≡ compares_cell cmp against (cell_at column (record { 0 = 64 * block + place })) = ap (λ a. compares_signed cmp a (number (value_at places (64 * block + place)))) same ∙ ap (compares_cell cmp against) (sym at) in
        subst (λ b. IsBitSet mask place ↔ IsTrue b) answer (is.bits place (value_at places (64 * block + place)) (each place within));
    higher = subst (λ n. mask < 2 ^ n) size is.higher;
  }
