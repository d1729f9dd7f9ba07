-- Scores by their binary digits.
use Rattle.std.proofs.Common.{◌≡◌, ℕ, zero, suc, ◌+◌, ◌-◌, ◌*◌, ◌%◌, ◌<◌, ◌≤◌, ◌^◌, min, Bool, true, false, inl, inr, refl, sym, ap, subst, ◌∙◌, arith, bit_and, bit_or, bit_xor}
use Rattle.std.specs.Prelude.{nat_lt, ◌==◌, ◌&&◌, if◌then◌else◌, IsBitSet, IsTrue, ◌↔◌}
use Rattle.std.specs.Int.{bit_at, bit_not, w64}
use Rattle.std.proofs.lemmas.Bool.{cases_eq, eq-eqb, le-ltb, lt-ltb, ne_eqb}
use Rattle.std.proofs.lemmas.Nat.{bit_set_by_shift}
use Rattle.std.proofs.lemmas.Nat.Bits.{bit_at-lt, bit_at_and, bit_at_not, bit_at_or, bit_at_set_other, bit_at_set_same, bit_at_xor, shr_and_one}
use Rattle.gr_expr.specs.declared.Join.{Join}
use Rattle.gr_expr.specs.declared.Join.TheVariants.{And, Or, Without}
use Rattle.gr_expr.specs.Score.{joined}
use Rattle.gr_expr.specs.Seeks.{capped, one_if}
use Rattle.gr_plan.specs.declared.planes.Planes.{Planes}
use Rattle.gr_plan.specs.Inside.Planes.{score_in}

-- a bit that stands for a truth
pub bit_is : (n k : ℕ) (holds : Bool) → (IsBitSet n k ↔ IsTrue holds) → bit_at n k ≡ one_if holds
bit_is n k true both = sym (shr_and_one n k) ∙ (bit_set_by_shift n k).1 (both.1 refl)
bit_is n k false both = elim (cases_eq (bit_at n k) 1) [
  | inl one ↦ let no : IsTrue false = both.0 ((bit_set_by_shift n k).0 (shr_and_one n k ∙ one)) in absurd (cc)
  | inr other ↦ omega (arith, bit_at-lt n k, other)
]

-- a digit of a sum and what is carried
pub added-is : (left right carried place : ℕ) → bit_at (bit_xor (bit_xor left right) carried) place + 2 * bit_at (bit_or (bit_and left right) (bit_and (bit_xor left right) carried)) place ≡ bit_at left place + bit_at right place + bit_at carried place
added-is left right carried place =
    omega
    (arith, bit_at_xor left right place, bit_at_xor (bit_xor left right) carried place, bit_at_or (bit_and left right) (bit_and (bit_xor left right) carried) place, bit_at_and left right place, bit_at_and (bit_xor left right) carried place, bit_at-lt left place, bit_at-lt right place, bit_at-lt carried place)

-- the places where a score is above 0
pub found-is : (ones twos fours eights place : ℕ) → bit_at (bit_or (bit_or ones twos) (bit_or fours eights)) place ≡ min 1 (bit_at ones place + 2 * bit_at twos place + 4 * bit_at fours place + 8 * bit_at eights place)
found-is ones twos fours eights place =
    omega
    (arith, bit_at_or (bit_or ones twos) (bit_or fours eights) place, bit_at_or ones twos place, bit_at_or fours eights place, bit_at-lt ones place, bit_at-lt twos place, bit_at-lt fours place, bit_at-lt eights place)

-- a bit of one mask without another
pub without-is : (mask others place : ℕ) → others < 2 ^ 64 → place < 64 → bit_at (bit_and mask (bit_not w64 others)) place ≡ bit_at mask place - bit_at others place
without-is mask others place fits within =
    omega (arith, bit_at_and mask (bit_not w64 others) place, bit_at_not w64 others place fits within, bit_at-lt mask place, bit_at-lt others place)

-- a score has four digits
pub score_in-most : (planes : Planes) (place : ℕ) → score_in planes place < 16
score_in-most planes place = omega (arith, bit_at-lt planes.ones place, bit_at-lt planes.twos place, bit_at-lt planes.fours place, bit_at-lt planes.eights place)

-- scores joined, each below 16

pub joined-or : (left right sum : ℕ) → left < 16 → right < 16 → sum ≡ left + right → sum ≡ joined Or left right
joined-or left right sum l r is = omega (arith, l, r, is)

pub joined-without : (left right free kept : ℕ) → free ≡ 1 - min 1 right → (free ≡ 1 → kept ≡ left) → (free ≡ 0 → kept ≡ 0) → kept ≡ joined Without left right
joined-without left right free kept is set unset = elim (cases_eq right 0) [
  | inl none ↦ rw (eq-eqb right 0 none) (set (omega (arith, is, none)))
  | inr some ↦ rw (ne_eqb right 0 some) (unset (omega (arith, is, some)))
]

pub joined-and : (left right both first second : ℕ) → left < 16 → right < 16 → both ≡ min (min 1 left) (min 1 right)
    → (both ≡ 1 → first ≡ left) → (both ≡ 0 → first ≡ 0) → (both ≡ 1 → second ≡ right) → (both ≡ 0 → second ≡ 0) → first + second ≡ joined And left right
joined-and left right both first second l r is first_set first_unset second_set second_unset = elim (cases_eq left 0) [
  | inl none ↦ rw (le-ltb 0 left (omega (arith, none))) (omega (arith, first_unset (omega (arith, is, none)), second_unset (omega (arith, is, none))))
  | inr some ↦ elim (cases_eq right 0) [
    | inl none ↦ rw (lt-ltb 0 left (omega (arith, some)), le-ltb 0 right (omega (arith, none))) (omega (arith, first_unset (omega (arith, is, none)), second_unset (omega (arith, is, none))))
    | inr more ↦
        let set : both ≡ 1 = omega (arith, is, some, more) in
        rw (lt-ltb 0 left (omega (arith, some)), lt-ltb 0 right (omega (arith, more))) (omega (arith, l, r, first_set set, second_set set))
  ]
]

-- the digits of scores at the places of a mask

pub within-set : (planes : Planes) (mask place : ℕ) → bit_at mask place ≡ 1 → score_in (record { ones = bit_and planes.ones mask; twos = bit_and planes.twos mask; fours = bit_and planes.fours mask; eights = bit_and planes.eights mask }) place ≡ score_in planes place
within-set planes mask place set =
    omega
    (arith, set, bit_at_and planes.ones mask place, bit_at_and planes.twos mask place, bit_at_and planes.fours mask place, bit_at_and planes.eights mask place, bit_at-lt planes.ones place, bit_at-lt planes.twos place, bit_at-lt planes.fours place, bit_at-lt planes.eights place)

pub within-unset : (planes : Planes) (mask place : ℕ) → bit_at mask place ≡ 0 → score_in (record { ones = bit_and planes.ones mask; twos = bit_and planes.twos mask; fours = bit_and planes.fours mask; eights = bit_and planes.eights mask }) place ≡ 0
within-unset planes mask place unset =
    omega (arith, unset, bit_at_and planes.ones mask place, bit_at_and planes.twos mask place, bit_at_and planes.fours mask place, bit_at_and planes.eights mask place)

-- a bit of what is not in a mask
pub not-is : (mask place : ℕ) → mask < 2 ^ 64 → place < 64 → bit_at (bit_not w64 mask) place ≡ 1 - bit_at mask place
not-is mask place fits within = bit_at_not w64 mask place fits within

-- a mask made bit by bit

-- the first so many bits are right, and no other is set
pub record AreBits (holds : ℕ → Bool) (mask seen : ℕ) : Type 0 where
  pub right : (place : ℕ) → place < seen → bit_at mask place ≡ one_if (holds place)
  pub rest : (place : ℕ) → seen ≤ place → bit_at mask place ≡ 0

module _ (holds : ℕ → Bool) (mask seen : ℕ) (within : seen < 64) (are : AreBits holds mask seen) where
  pub AreBits-set : holds seen ≡ true → AreBits holds (bit_or mask (1 * 2 ^ seen % 2 ^ 64)) (seen + 1)
  AreBits-set here = record {
    right = λ place below. elim (cases_eq place seen) [
      | inl last ↦ rw (last, here) (bit_at_set_same w64 mask seen within)
      | inr other ↦ bit_at_set_other w64 mask seen within place other ∙ are.right place (omega (arith, below, other))
    ];
    rest = λ place above. bit_at_set_other w64 mask seen within place (λ last. omega (arith, above, last)) ∙ are.rest place (omega (arith, above));
  }

  pub AreBits-passed : holds seen ≡ false → AreBits holds mask (seen + 1)
  AreBits-passed not_here = record {
    right = λ place below. elim (cases_eq place seen) [
      | inl last ↦ rw (last, not_here) (are.rest seen (omega arith))
      | inr other ↦ are.right place (omega (arith, below, other))
    ];
    rest = λ place above. are.rest place (omega (arith, above));
  }

-- a bit that is a truth is set where that holds
pub is_set : (n k : ℕ) (holds : Bool) → bit_at n k ≡ one_if holds → IsBitSet n k ↔ IsTrue holds
is_set n k true is = (λ set. refl, λ holds. (bit_set_by_shift n k).0 (shr_and_one n k ∙ is))
is_set n k false is = (λ set. let one : bit_at n k ≡ 1 = sym (shr_and_one n k) ∙ (bit_set_by_shift n k).1 set in absurd (omega (arith, one, is)), λ holds. absurd (cc))
