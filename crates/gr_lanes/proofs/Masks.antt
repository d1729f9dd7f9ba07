-- Masks of the values that pass a test: `mask_l` of the answers in order.
use Rattle.std.proofs.Common.{ℕ, ℤ, ◌≡◌, ◌<◌, ◌≤◌, ◌+◌, ◌-◌, ◌*◌, ◌/◌, ◌%◌, ◌^◌, suc, Bool, true, false, cond, List, [], ◌∷◌, ◌++◌, length, map, refl, sym, ◌∙◌, ap, ap₂, subst, arith, mul_assoc, bit_and, bit_or, ◌&&◌, min, get_or, drop, take, replicate}
use Rattle.std.specs.Prelude.{IsTrue, IsBitSet, ◌↔◌, option_map}
use mir.Syntax.{w64}
use mir.Val.{bits, hbits, bool_byte, SFits, of_z}
use lib.Lanes.{zip2, top}
use Rattle.std.specs.Int.{bit_at}
use Rattle.std.specs.Int.Bits.{and_step}
use Rattle.std.specs.List.{All}
use Rattle.std.proofs.lemmas.List.Elements.{All-head, All-tail}
use Rattle.std.specs.Simd.Lanes.{mask_l}
use Rattle.std.proofs.Math.Nat.{pow-suc, mul-le-mul_right, pow-le-pow_right, mod-eq_of_lt}
use Rattle.std.proofs.Math.Seq.{take-add}
use Rattle.std.proofs.lemmas.List.{length-map, map-append, length-take, length-take-le, take_all, take_more}
use Rattle.std.proofs.lemmas.Nat.{bit_set_by_shift, or_comm, or_shifted, pow-add, pow_pos}
use Rattle.std.proofs.lemmas.Nat.Bits.{shr_and_one}
use Rattle.std.proofs.lemmas.Option.{get_or_from_slice_get, slice_get-map}
use Rattle.std.proofs.lemmas.Simd.{bit_mask_l, mask_l-lt, mask_l-mod, tops_compared, zip2_splat, zip2_splat_left}
use Rattle.gr_lanes.specs.Mask.{IsMask}

-- a value more below doubles what stands above
one_below : (k n bit others : ℕ) → bit + 2 * (k * 2 ^ n + others) ≡ k * 2 ^ suc n + (bit + 2 * others)
one_below k n bit others =
    let doubled : k * 2 ^ suc n ≡ (k * 2 ^ n) * 2 = ap (λ p. k * p) (pow-suc 2 n) ∙ sym (mul_assoc k (2 ^ n) 2) in
    omega (arith, doubled)

-- the mask of two runs of answers, the second above the first
pub mask_l-append : (xs ys : List Bool) → mask_l (xs ++ ys) ≡ mask_l ys * 2 ^ length xs + mask_l xs
mask_l-append [] ys = omega arith
mask_l-append (x ∷ xs) ys = ap (λ m. cond x 1 0 + 2 * m) (mask_l-append xs ys) ∙ one_below (mask_l ys) (length xs) (cond x 1 0) (mask_l xs)

-- a mask of n values that is shifted by i, in 64 bits
shifted_fits : (k n i : ℕ) → k < 2 ^ n → i + n ≤ 64 → k * 2 ^ i % 18446744073709551616 ≡ k * 2 ^ i
shifted_fits k n i below room =
    let scaled : suc k * 2 ^ i ≤ 2 ^ n * 2 ^ i = mul-le-mul_right (2 ^ i) below in
    let whole : 2 ^ (n + i) ≤ 2 ^ 64 = let narrow : n + i ≤ 64 = omega arith in pow-le-pow_right (omega arith) narrow in
    let fits : k * 2 ^ i < 18446744073709551616 = let least : 0 < 2 ^ i = pow_pos i in omega (arith, scaled, whole, pow-add 2 n i, least) in
    mod-eq_of_lt fits

-- a mask that is shifted above another and joined to it
pub put_above : (xs ys : List Bool) (i : ℕ) → i ≡ length xs → i + length ys ≤ 64 → bit_or (mask_l xs) (mask_l ys * 2 ^ i % 18446744073709551616) ≡ mask_l (xs ++ ys)
put_above xs ys i at room =
    let below : mask_l xs < 2 ^ i = subst (λ n. mask_l xs < 2 ^ n) (sym at) (mask_l-lt xs) in
    ap (bit_or (mask_l xs)) (shifted_fits (mask_l ys) (length ys) i (mask_l-lt ys) room)
    ∙ or_comm (mask_l xs) (mask_l ys * 2 ^ i)
    ∙ or_shifted (mask_l ys) i (mask_l xs) below
    ∙ ap (λ n. mask_l ys * 2 ^ n + mask_l xs) at
    ∙ sym (mask_l-append xs ys)

-- a bit that is an answer is set where the answer is yes
set_where_true : (n k : ℕ) (answer : Bool) → bit_at n k ≡ cond answer 1 0 → IsBitSet n k ↔ IsTrue answer
set_where_true n k true is = (λ _. refl, λ _. (bit_set_by_shift n k).0 (shr_and_one n k ∙ is))
set_where_true n k false is = (λ set. let one : bit_at n k ≡ 1 = sym (shr_and_one n k) ∙ (bit_set_by_shift n k).1 set in absurd (omega (arith, one, is)), λ h. cc)

-- the mask of the answers says which values pass the test
pub IsMask-from_mask_l : {V : Type 0} (passes : V → Bool) (xs : List V) (m : ℕ) → m ≡ mask_l (map passes xs) → IsMask passes xs m
IsMask-from_mask_l passes xs m is = record {
  bits = λ place value got.
      let answer : get_or (map passes xs) place false ≡ passes value =
      get_or_from_slice_get (map passes xs) place (passes value) false (slice_get-map passes xs place ∙ ap (option_map passes) got) in
      set_where_true m place (passes value) (ap (λ n. bit_at n place) is ∙ bit_mask_l (map passes xs) place ∙ ap (λ b. cond b 1 0) answer);
  higher = rw (is, ← length-map xs passes) (mask_l-lt (map passes xs));
}

-- the step of a loop that puts the mask of some more values above those so far
pub put_more : {V : Type 0} (passes : V → Bool) (xs ys more : List V) (i m k : ℕ) → length xs ≡ i → ys ≡ xs ++ more → i + length more ≤ 64 → m ≡ mask_l (map passes xs) → k ≡ mask_l (map passes more) → bit_or m (k * 2 ^ i % 18446744073709551616) ≡ mask_l (map passes ys)
put_more passes xs ys more i m k at split room before above =
    let e = put_above (map passes xs) (map passes more) i (sym at ∙ sym (length-map xs passes)) (rw (length-map more passes) room) in
    rw (before, above, split, map-append passes xs more) e

-- the step of a loop over blocks of eight
pub eight_more : {V : Type 0} (passes : V → Bool) (xs : List V) (group m k : ℕ) → group < length xs / 8 → length xs ≤ 64 → m ≡ mask_l (map passes (take (group * 8) xs)) → k ≡ mask_l (map passes (take (group * 8 + 8 - group * 8) (drop (group * 8) xs))) → bit_or m (k * 2 ^ (group * 8) % 18446744073709551616) ≡ mask_l (map passes (take ((group + 1) * 8) xs))
eight_more passes xs group m k within few before above =
    let at : ℕ = group * 8 in
    let eight : group * 8 + 8 - group * 8 ≡ 8 = omega arith in
    let next : (group + 1) * 8 ≡ group * 8 + 8 = omega arith in
    let split : take ((group + 1) * 8) xs ≡ take (group * 8) xs ++ take (group * 8 + 8 - group * 8) (drop (group * 8) xs) = rw (next, eight) (take-add (group * 8) 8 xs) in
    let short : length (take (group * 8 + 8 - group * 8) (drop (group * 8) xs)) ≤ 8 = rw eight (omega (arith, length-take 8 (drop (group * 8) xs))) in
    put_more passes (take (group * 8) xs) (take ((group + 1) * 8) xs) (take (group * 8 + 8 - group * 8) (drop (group * 8) xs)) (group * 8) m k (length-take-le (group * 8) xs (omega arith)) split (omega arith) before above

-- the step of a loop over single values
pub one_more : {V : Type 0} (passes : V → Bool) (xs : List V) (i m bit : ℕ) (x : V) → i < length xs → length xs ≤ 64 → x ≡ get_or xs i x → bit ≡ bool_byte (passes x) → m ≡ mask_l (map passes (take i xs)) → bit_or m (bit * 2 ^ i % 18446744073709551616) ≡ mask_l (map passes (take (i + 1) xs))
one_more passes xs i m bit x within few is bit_is before =
    let split : take (i + 1) xs ≡ take i xs ++ x ∷ [] = rw (take_more xs i x within, sym is) refl in
    let one : bool_byte (passes x) ≡ cond (passes x) 1 0 + 2 * 0 = elim (passes x) as (λ b. bool_byte b ≡ cond b 1 0 + 2 * 0) [ true ↦ refl | false ↦ refl ] in
    put_more passes (take i xs) (take (i + 1) xs) (x ∷ []) i m bit (length-take-le i xs (omega arith)) split (omega arith) before (bit_is ∙ one)

-- two tests that agree at each value have the same answers
same_answers : {V : Type 0} (p q : V → Bool) (Holds : V → Type 0) (agree : (v : V) → Holds v → p v ≡ q v) (xs : List V) → All Holds xs → map p xs ≡ map q xs
same_answers p q Holds agree [] all = refl
same_answers p q Holds agree (x ∷ xs) all = ap₂ (λ b bs. b ∷ bs) (agree x (All-head Holds x xs all)) (same_answers p q Holds agree xs (All-tail Holds x xs all))

compared : (t : ℕ → ℕ → Bool) (xs ys : List ℕ) → length (zip2 t xs ys) ≤ 64 → mask_l (map (top (hbits w64)) (zip2 (λ a b. cond (t a b) (2 ^ bits w64 - 1) 0) xs ys)) % 2 ^ 64 ≡ mask_l (zip2 t xs ys)
compared t xs ys few = ap (λ ms. mask_l ms % 2 ^ 64) (tops_compared w64 t xs ys) ∙ mask_l-mod (zip2 t xs ys) 64 few

-- the mask of a comparison of eight lanes with one number
pub lanes_with : (t : ℕ → ℕ → Bool) (xs : List ℕ) (y : ℕ) → length xs ≡ 8 → mask_l (map (top (hbits w64)) (zip2 (λ a b. cond (t a b) (2 ^ bits w64 - 1) 0) xs (replicate 8 y))) % 2 ^ 64 ≡ mask_l (map (λ x. t x y) xs)
lanes_with t xs y eight =
    let e = zip2_splat t xs 8 y eight in
    compared t xs (replicate 8 y) (rw e (omega (arith, length-map xs (λ x. t x y)))) ∙ ap mask_l e

-- the same, with the number on the left
pub lanes_under : (t : ℕ → ℕ → Bool) (xs : List ℕ) (y : ℕ) → length xs ≡ 8 → mask_l (map (top (hbits w64)) (zip2 (λ a b. cond (t a b) (2 ^ bits w64 - 1) 0) (replicate 8 y) xs)) % 2 ^ 64 ≡ mask_l (map (λ x. t y x) xs)
lanes_under t xs y eight =
    let e = zip2_splat_left t y 8 xs eight in
    compared t (replicate 8 y) xs (rw e (omega (arith, length-map xs (λ x. t y x)))) ∙ ap mask_l e

-- a loop over the values has come to their end
pub IsMask-from_loop : {V : Type 0} (passes : V → Bool) (xs : List V) (m i : ℕ) → length xs ≤ i → m ≡ mask_l (map passes (take i xs)) → IsMask passes xs m
IsMask-from_loop passes xs m i over is = IsMask-from_mask_l passes xs m (is ∙ ap (λ ys. mask_l (map passes ys)) (take_all i xs over))

-- eight unsigned lanes that are compared with a number on the right, or on the left
pub unsigned_with : (t : ℕ → ℕ → Bool) (passes : ℕ → Bool) (xs : List ℕ) (y : ℕ) → length xs ≡ 8 → ((x : ℕ) → t x y ≡ passes x) → mask_l (map (top (hbits w64)) (zip2 (λ a b. cond (t a b) (2 ^ bits w64 - 1) 0) (take 8 xs) (replicate 8 y))) % 2 ^ 64 ≡ mask_l (map passes xs)
unsigned_with t passes xs y eight agree =
    let whole : take 8 xs ≡ xs = take_all 8 xs (omega arith) in
    rw whole (lanes_with t xs y eight ∙ ap mask_l (same_answers (λ x. t x y) passes (λ x. Unit {0}) (λ x _. agree x) xs (λ _ _ _. tt)))

pub unsigned_under : (t : ℕ → ℕ → Bool) (passes : ℕ → Bool) (xs : List ℕ) (y : ℕ) → length xs ≡ 8 → ((x : ℕ) → t y x ≡ passes x) → mask_l (map (top (hbits w64)) (zip2 (λ a b. cond (t a b) (2 ^ bits w64 - 1) 0) (replicate 8 y) (take 8 xs))) % 2 ^ 64 ≡ mask_l (map passes xs)
unsigned_under t passes xs y eight agree =
    let whole : take 8 xs ≡ xs = take_all 8 xs (omega arith) in
    rw whole (lanes_under t xs y eight ∙ ap mask_l (same_answers (λ x. t y x) passes (λ x. Unit {0}) (λ x _. agree x) xs (λ _ _ _. tt)))

encoded : (p : ℕ → Bool) (q : ℤ → Bool) (xs : List ℤ) → All (SFits w64) xs → ((x : ℤ) → SFits w64 x → p (of_z w64 x) ≡ q x) → map p (map (of_z w64) xs) ≡ map q xs
encoded p q [] fit agree = refl
encoded p q (x ∷ xs) fit agree = ap₂ (λ b bs. b ∷ bs) (agree x (All-head (SFits w64) x xs fit)) (encoded p q xs (All-tail (SFits w64) x xs fit) agree)

-- the same of signed lanes
pub signed_with : (t : ℕ → ℕ → Bool) (passes : ℤ → Bool) (xs : List ℤ) (y : ℕ) → length xs ≡ 8 → All (SFits w64) xs → ((x : ℤ) → SFits w64 x → t (of_z w64 x) y ≡ passes x) → mask_l (map (top (hbits w64)) (zip2 (λ a b. cond (t a b) (2 ^ bits w64 - 1) 0) (map (of_z w64) (take 8 xs)) (replicate 8 y))) % 2 ^ 64 ≡ mask_l (map passes xs)
signed_with t passes xs y eight fit agree =
    let whole : take 8 xs ≡ xs = take_all 8 xs (omega arith) in
    rw whole (lanes_with t (map (of_z w64) xs) y (length-map xs (of_z w64) ∙ eight) ∙ ap mask_l (encoded (λ x. t x y) passes xs fit agree))

pub signed_under : (t : ℕ → ℕ → Bool) (passes : ℤ → Bool) (xs : List ℤ) (y : ℕ) → length xs ≡ 8 → All (SFits w64) xs → ((x : ℤ) → SFits w64 x → t y (of_z w64 x) ≡ passes x) → mask_l (map (top (hbits w64)) (zip2 (λ a b. cond (t a b) (2 ^ bits w64 - 1) 0) (replicate 8 y) (map (of_z w64) (take 8 xs)))) % 2 ^ 64 ≡ mask_l (map passes xs)
signed_under t passes xs y eight fit agree =
    let whole : take 8 xs ≡ xs = take_all 8 xs (omega arith) in
    rw whole (lanes_under t (map (of_z w64) xs) y (length-map xs (of_z w64) ∙ eight) ∙ ap mask_l (encoded (λ x. t y x) passes xs fit agree))

and_halves : (a b m n c : ℕ) → a / 2 ≡ m → b / 2 ≡ n → min (a % 2) (b % 2) ≡ c → bit_and a b ≡ c + 2 * bit_and m n
and_halves a b m n c above other lowest = and_step a b ∙ rw (above, other, lowest) (omega arith)

and_bits : (p q : Bool) (m n : ℕ) → bit_and (cond p 1 0 + 2 * m) (cond q 1 0 + 2 * n) ≡ cond (p && q) 1 0 + 2 * bit_and m n
and_bits true true m n = and_halves (1 + 2 * m) (1 + 2 * n) m n 1 (omega arith) (omega arith) (omega arith)
and_bits true false m n = and_halves (1 + 2 * m) (0 + 2 * n) m n 0 (omega arith) (omega arith) (omega arith)
and_bits false true m n = and_halves (0 + 2 * m) (1 + 2 * n) m n 0 (omega arith) (omega arith) (omega arith)
and_bits false false m n = and_halves (0 + 2 * m) (0 + 2 * n) m n 0 (omega arith) (omega arith) (omega arith)

-- the values that pass two tests
pub both_pass : {V : Type 0} (p q r : V → Bool) (xs : List V) → ((x : V) → (p x && q x) ≡ r x) → bit_and (mask_l (map p xs)) (mask_l (map q xs)) ≡ mask_l (map r xs)
both_pass p q r [] agree = refl
both_pass p q r (x ∷ xs) agree =
    and_bits (p x) (q x) (mask_l (map p xs)) (mask_l (map q xs)) ∙ ap₂ (λ b m. cond b 1 0 + 2 * m) (agree x) (both_pass p q r xs agree)
