-- What std's parse says of a text that writes a whole number.
use Rattle.std.proofs.Common.{◌≡◌, ◌≢◌, ℕ, ℤ, zero, pos, neg_ℤ, ◌^◌, ◌<◌, ◌≤◌, Bool, true, false, not, cond, ◌==◌, ◌&&◌, List, [], ◌∷◌, length, Option, Some, None, option_map, is_some, int_le, Result, Ok, Err, refl, ap, sym, ◌∙◌, ⊎_elim, inl, inr, arith, rules}
use Rattle.std.proofs.lemmas.Bool.{cases_lt, eqb-false, eqb-true}
use Rattle.std.proofs.lemmas.Result.{OkIff-at_err, OkIff-at_ok}
use Rattle.std.proofs.lemmas.Int.{ints}
use Rattle.std.proofs.lemmas.Str.Parse.{IsNumeralModel, not_in_digits, numerals_by_value, parse_signed_minus, parse_signed_plain}
use Rattle.std.specs.Char.{is_ascii_digit}
use Rattle.std.specs.Int.{w128}
use Rattle.std.specs.List.{list_all}
use Rattle.std.specs.Option.{ok_or}
use Rattle.std.specs.Result.{OkIff}
use Rattle.std.specs.Str.Parse.{ParsesSigned, digits_value}
use Rattle.gr_base.specs.Failure.{result_then}
use Rattle.gr_base.specs.declared.fault.FaultKind.TheVariants.{BadValue, OutOfRange}
use Rattle.gr_values.specs.declared.data_type.Range.{Range}
use Rattle.gr_values.specs.Fits.{IsNarrow}
use Rattle.gr_values.specs.Keys.{digits_text, whole_text}
use Rattle.gr_values.specs.Values.{in_range}

own : IsNumeralModel (λ ds. list_all is_ascii_digit ds ≡ true) (digits_value 10)
own = numerals_by_value _ (search rules)

-- a text of digits and the number that they write
record IsDigits (ds : List ℕ) : Type 0 where
  all : list_all is_ascii_digit ds ≡ true
  some : 0 < length ds
  is : digits_text ds ≡ Some (digits_value 10 ds)

both : (a b : Bool) → is_some (cond (not a && b) (Some zero) None) ≡ true → (a ≡ false) × (b ≡ true)
both true b h = absurd (cc)
both false true h = (refl, refl)
both false false h = absurd (cc)

mapped : {X Y : Type 0} (f : X → Y) (o : Option X) → is_some (option_map f o) ≡ is_some o
mapped f None = refl
mapped f (Some x) = refl

same_test : (b : Bool) (n : ℕ) → is_some (cond b (Some n) None) ≡ is_some (cond b (Some zero) None)
same_test true n = refl
same_test false n = refl

digits : (ds : List ℕ) → is_some (digits_text ds) ≡ true → IsDigits ds
digits ds whole =
    let tests : ((length ds == 0) ≡ false) × (list_all is_ascii_digit ds ≡ true) =
    both (length ds == 0) (list_all is_ascii_digit ds) (sym (same_test (not (length ds == 0) && list_all is_ascii_digit ds) (digits_value 10 ds)) ∙ whole) in
    record {
      all = tests.1;
      some = let apart : length ds ≢ 0 = eqb-false (length ds) 0 tests.0 in omega arith;
      is = ap (λ b. cond (not b && list_all is_ascii_digit ds) (Some (digits_value 10 ds)) None) tests.0 ∙ ap (λ b. cond b (Some (digits_value 10 ds)) None) tests.1;
    }

not_small : (n m : ℕ) → (n ≤ m → ⊥) → m < n
not_small n m large = ⊎_elim (λ small. absurd (large small)) (λ more. more) (⊎_elim inr inl (cases_lt m n))

not_below : (n m : ℕ) → (n < m → ⊥) → m ≤ n
not_below n m large = ⊎_elim (λ small. absurd (large small)) (λ more. more) (cases_lt n m)

-- a number below each range of 64 bits, and one above it
below : (range : Range) (n : ℕ) → IsNarrow range → 2 ^ 127 < n → in_range range (neg_ℤ (pos n)) ≡ Err OutOfRange
below range n narrow h =
    let gone : int_le range.least (neg_ℤ (pos n)) ≡ false = grind (arith, ints) in
    ap (λ b. cond (b && int_le (neg_ℤ (pos n)) range.greatest) (Ok (neg_ℤ (pos n))) (Err OutOfRange)) gone

above : (range : Range) (n : ℕ) → IsNarrow range → 2 ^ 127 ≤ n → in_range range (pos n) ≡ Err OutOfRange
above range n narrow h =
    let gone : int_le (pos n) range.greatest ≡ false = grind (arith, ints) in
    ap (λ b. cond (int_le range.least (pos n) && b) (Ok (pos n)) (Err OutOfRange)) gone ∙ never (int_le range.least (pos n))
  where
    never : (b : Bool) → cond (b && false) (Ok (pos n)) (Err OutOfRange) ≡ Err OutOfRange
    never true = refl
    never false = refl

-- a text that begins with a minus, and one that does not
with_minus : (c : ℕ) (cs : List ℕ) → (c == 45) ≡ true → whole_text (c ∷ cs) ≡ option_map (λ n. neg_ℤ (pos n)) (digits_text cs)
with_minus c cs e = ap (λ b. cond b (option_map (λ n. neg_ℤ (pos n)) (digits_text cs)) (option_map pos (digits_text (c ∷ cs)))) e

without_minus : (c : ℕ) (cs : List ℕ) → (c == 45) ≡ false → whole_text (c ∷ cs) ≡ option_map pos (digits_text (c ∷ cs))
without_minus c cs e = ap (λ b. cond b (option_map (λ n. neg_ℤ (pos n)) (digits_text cs)) (option_map pos (digits_text (c ∷ cs)))) e

-- digits, and the number that they write with their sign
record IsRead {E : Type 0} (bs : List ℕ) (r : Result ℤ E) (Fits : Type 0) (z : ℤ) : Type 0 where
  is : whole_text bs ≡ Some z
  says : OkIff r Fits z

negative : {E : Type 0} (c : ℕ) (cs : List ℕ) (r : Result ℤ E) → ParsesSigned w128 10 (c ∷ cs) r → is_some (whole_text (c ∷ cs)) ≡ true → (c == 45) ≡ true
    → IsRead (c ∷ cs) r ((list_all is_ascii_digit cs ≡ true) × (0 < length cs) × (digits_value 10 cs ≤ 2 ^ 127)) (neg_ℤ (pos (digits_value 10 cs)))
negative c cs r parses whole minus =
    let ds : IsDigits cs = digits cs (sym (mapped (λ n. neg_ℤ (pos n)) (digits_text cs)) ∙ ap is_some (sym (with_minus c cs minus)) ∙ whole) in
    record {
      is = with_minus c cs minus ∙ ap (option_map (λ n. neg_ℤ (pos n))) ds.is;
      says = parse_signed_minus own w128 (c ∷ cs) r parses (eqb-true c 45 minus);
    }

positive : {E : Type 0} (c : ℕ) (cs : List ℕ) (r : Result ℤ E) → ParsesSigned w128 10 (c ∷ cs) r → is_some (whole_text (c ∷ cs)) ≡ true → (c == 45) ≡ false
    → IsRead (c ∷ cs) r ((list_all is_ascii_digit (c ∷ cs) ≡ true) × (0 < length (c ∷ cs)) × (digits_value 10 (c ∷ cs) < 2 ^ 127)) (pos (digits_value 10 (c ∷ cs)))
positive c cs r parses whole plain =
    let ds : IsDigits (c ∷ cs) = digits (c ∷ cs) (sym (mapped pos (digits_text (c ∷ cs))) ∙ ap is_some (sym (without_minus c cs plain)) ∙ whole) in
    record {
      is = without_minus c cs plain ∙ ap (option_map pos) ds.is;
      says = parse_signed_plain own w128 (c ∷ cs) r parses (not_in_digits own (c ∷ cs) 43 ds.all (λ digit. omega arith) 0 (omega arith)) (eqb-false c 45 plain);
    }

-- the number that is parsed is the one that the text writes
pub found : {E : Type 0} (bs : List ℕ) (r : Result ℤ E) (z : ℤ) → ParsesSigned w128 10 bs r → is_some (whole_text bs) ≡ true → r ≡ Ok z → whole_text bs ≡ Some z
found [] r z parses whole ok = absurd (cc)
found (c ∷ cs) r z parses whole ok = by_sign (c == 45) refl
  where
    by_sign : (b : Bool) → (c == 45) ≡ b → whole_text (c ∷ cs) ≡ Some z
    by_sign true minus = let read = negative c cs r parses whole minus in read.is ∙ ap Some (sym (OkIff-at_ok r _ _ z read.says ok).1)
    by_sign false plain = let read = positive c cs r parses whole plain in read.is ∙ ap Some (sym (OkIff-at_ok r _ _ z read.says ok).1)

-- a number that is not parsed is in no range of 64 bits
pub refused : {E : Type 0} (range : Range) (bs : List ℕ) (r : Result ℤ E) (e : E) → IsNarrow range → ParsesSigned w128 10 bs r → is_some (whole_text bs) ≡ true → r ≡ Err e
    → result_then (in_range range) (ok_or (whole_text bs) BadValue) ≡ Err OutOfRange
refused range [] r e narrow parses whole err = absurd (cc)
refused range (c ∷ cs) r e narrow parses whole err = by_sign (c == 45) refl
  where
    by_sign : (b : Bool) → (c == 45) ≡ b → result_then (in_range range) (ok_or (whole_text (c ∷ cs)) BadValue) ≡ Err OutOfRange
    by_sign true minus =
        let read = negative c cs r parses whole minus in
        let ds : IsDigits cs = digits cs (sym (mapped (λ n. neg_ℤ (pos n)) (digits_text cs)) ∙ ap is_some (sym (with_minus c cs minus)) ∙ whole) in
        let large : 2 ^ 127 < digits_value 10 cs = not_small (digits_value 10 cs) (2 ^ 127) (λ small. OkIff-at_err r _ _ e read.says err (ds.all, ds.some, small)) in
        ap (λ o. result_then (in_range range) (ok_or o BadValue)) read.is ∙ below range (digits_value 10 cs) narrow large
    by_sign false plain =
        let read = positive c cs r parses whole plain in
        let ds : IsDigits (c ∷ cs) = digits (c ∷ cs) (sym (mapped pos (digits_text (c ∷ cs))) ∙ ap is_some (sym (without_minus c cs plain)) ∙ whole) in
        let large : 2 ^ 127 ≤ digits_value 10 (c ∷ cs) = not_below (digits_value 10 (c ∷ cs)) (2 ^ 127) (λ small. OkIff-at_err r _ _ e read.says err (ds.all, ds.some, small)) in
        ap (λ o. result_then (in_range range) (ok_or o BadValue)) read.is ∙ above range (digits_value 10 (c ∷ cs)) narrow large
