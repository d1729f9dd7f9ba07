-- Digits, one by one.
use Rattle.std.proofs.Common.{◌≡◌, ℕ, ◌<◌, ◌≤◌, ◌^◌, true, Some, None, List, length, take, get_or, arith, subst, sym, ap, ◌∙◌}
use Rattle.std.proofs.lemmas.Bool.Decides.{nat_tests}
use Rattle.std.proofs.lemmas.List.{get_or-take}
use Rattle.std.proofs.lemmas.List.Folds.{length-prefix_len}
use Rattle.std.proofs.lemmas.List.Sums.{prefix_len_passes}
use Rattle.std.specs.Char.{IsAsciiDigit, is_ascii_digit}
use Rattle.gr_text.specs.Digits.{digits_len, word_of}
use Rattle.std.proofs.lemmas.Bool.{le-ltb, lt-ltb}

IsAsciiDigit-test : (c : ℕ) → is_ascii_digit c ≡ true → IsAsciiDigit c
IsAsciiDigit-test c e = (grind (arith, nat_tests), grind (arith, nat_tests))

-- each of the digits that the bytes begin with is one
pub IsAsciiDigit-front : (bytes digits : List ℕ) (i : ℕ) → digits ≡ take (digits_len bytes) bytes → i < length digits → IsAsciiDigit (get_or digits i 0)
IsAsciiDigit-front bytes digits i e within =
    let inside : i < digits_len bytes = omega (arith, ap length e, length-prefix_len is_ascii_digit bytes) in
    let same : get_or digits i 0 ≡ get_or bytes i 0 = ap (λ ds. get_or ds i 0) e ∙ get_or-take (digits_len bytes) bytes i 0 inside in
    subst IsAsciiDigit (sym same) (IsAsciiDigit-test (get_or bytes i 0) (prefix_len_passes is_ascii_digit bytes i 0 inside))

pub word_of-great : (n : ℕ) → 2 ^ 64 ≤ n → word_of n ≡ None
word_of-great n great = rw (le-ltb n (2 ^ 64) great)

pub word_of-small : (n : ℕ) → n < 2 ^ 64 → word_of n ≡ Some n
word_of-small n small = rw (lt-ltb n (2 ^ 64) small)
