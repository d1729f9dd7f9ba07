-- What a number of 128 bits shows is a number of JSON.
use Rattle.std.proofs.Common.{◌≡◌, ℕ, ℤ, pos, negsuc, zero, suc, ◌+◌, ◌/◌, ◌%◌, ◌^◌, ◌<◌, ◌≤◌, false, cond, ◌==◌, List, [], ◌∷◌, ◌++◌, length, drop, get_or, Some, option_and_then, decimal, refl, ap, ◌∙◌, arith}
use Rattle.std.proofs.lemmas.Bool.{ne_eqb, le-leb, and_from}
use Rattle.std.proofs.lemmas.List.{drop_all}
use Rattle.std.proofs.lemmas.Fmt.{decimal_by_steps_wide, decimal_digit, decimal_is_IsNumeral_wide}
use Rattle.std.proofs.lemmas.Str.Parse.{digit_at}
use Rattle.std.specs.Char.{is_ascii_digit}
use Rattle.std.specs.Fmt.{signed_decimal}
use Rattle.std.specs.List.{prefix_len}
use Rattle.json.specs.Print.{IsNumber}
use Rattle.json.specs.Word.{head, after_exponent, after_fraction, after_number, after_whole}
use lib.Signed.{mag}

-- digits that begin with no 0, unless the number is 0
record Begins (n : ℕ) (ds : List ℕ) : Type 0 where
  some : 0 < length ds
  first : 0 < n → 48 < get_or ds 0 0

one_digit : (n : ℕ) → n < 10 → Begins n ((48 + n) ∷ [])
one_digit n h = record { some = omega arith; first = λ above. omega arith }

more_digits : (n : ℕ) (ds : List ℕ) → 10 ≤ n → Begins (n / 10) ds → Begins n (ds ++ ((48 + n % 10) ∷ []))
more_digits n [] h before = let none : 0 < 0 = before.some in absurd (omega arith)
more_digits n (d ∷ ds) h before =
    let first : 48 < d = before.first (omega arith) in
    record { some = omega arith; first = λ above. first }

first_digit : (n : ℕ) → n < 10 ^ 64 → Begins n (decimal n)
first_digit n h = decimal_by_steps_wide Begins one_digit more_digits n h

all_digits : (ds : List ℕ) → ((i : ℕ) → i < length ds → (48 ≤ get_or ds i 0) × (get_or ds i 0 ≤ 57)) → prefix_len is_ascii_digit ds ≡ length ds
all_digits [] h = refl
all_digits (d ∷ ds) h =
    let first = h 0 (omega arith) in
    let rest = all_digits ds (λ i l. h (suc i) (omega arith)) in
    ap (λ b. cond b (1 + prefix_len is_ascii_digit ds) 0) (and_from _ _ (le-leb 48 d first.0) (le-leb d 57 first.1)) ∙ omega arith

-- no text follows the whole part, and no minus stands before it
record IsWholePart (ds : List ℕ) : Type 0 where
  all : after_whole ds ≡ Some []
  unsigned : (head ds == 45) ≡ false

whole_digits : (ds : List ℕ) → 48 < get_or ds 0 0 → prefix_len is_ascii_digit ds ≡ length ds → IsWholePart ds
whole_digits [] first all = absurd (omega arith)
whole_digits (d ∷ ds) first all = record {
  all = rw (ne_eqb d 48 (λ e. omega arith), all, ne_eqb (suc (length ds)) 0 (λ e. omega arith)) (ap Some (drop_all (length ds) ds (omega arith)));
  unsigned = ne_eqb d 45 (λ e. omega arith);
}

whole_decimal : (n : ℕ) → n < 10 ^ 64 → IsWholePart (decimal n)
whole_decimal zero h = let e = decimal_digit 0 (omega arith) in record { all = ap after_whole e; unsigned = ap (λ l. head l == 45) e }
whole_decimal (suc n) h =
    whole_digits (decimal (suc n)) ((first_digit (suc n) h).first (omega arith)) (all_digits _ (λ i l. digit_at _ i (decimal_is_IsNumeral_wide (suc n) h).0.1 l))

IsNumber-decimal : (n : ℕ) → n < 10 ^ 64 → IsNumber (decimal n)
unfolding after_number
IsNumber-decimal n h =
    let whole = whole_decimal n h in
    ap (λ o. option_and_then after_exponent (option_and_then after_fraction o))
    (ap (λ b. after_whole (cond b (drop 1 (decimal n)) (decimal n))) whole.unsigned ∙ whole.all)

IsNumber-negative : (n : ℕ) → n < 10 ^ 64 → IsNumber (45 ∷ decimal n)
unfolding after_number
IsNumber-negative n h = ap (λ o. option_and_then after_exponent (option_and_then after_fraction o)) (whole_decimal n h).all

-- a number of 128 bits
pub IsNumber-signed_decimal : (z : ℤ) → mag z < 2 ^ 127 → IsNumber (signed_decimal z)
IsNumber-signed_decimal (pos n) h = IsNumber-decimal n (omega arith)
IsNumber-signed_decimal (negsuc n) h = IsNumber-negative (suc n) (omega arith)
