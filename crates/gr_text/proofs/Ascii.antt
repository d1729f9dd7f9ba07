-- A text cut behind bytes of ASCII.
use Rattle.std.proofs.Common.{◌≡◌, ℕ, zero, suc, ◌+◌, ◌<◌, ◌≤◌, ◌==◌, ◌&&◌, Bool, true, false, cond, List, [], ◌∷◌, length, take, drop, get_or, IsUtf8, nat_lt, subst, refl, arith, add-one, one-add, zero-add}
use Rattle.std.proofs.lemmas.Bool.Decides.{nat_tests}
use Rattle.std.proofs.lemmas.Str.{IsUtf8-drop, IsUtf8-from_ascii, IsCharBoundary-after_ascii, IsCharBoundary-start}
use Rattle.std.specs.Char.{is_ascii_digit}
use Rattle.std.specs.List.{prefix_len}
use Rattle.std.specs.Str.{IsAscii, IsCharBoundary}
use Rattle.gr_text.specs.Characters.{white_space_len, is_white_space, is_name_rest, is_name_start}
use Rattle.gr_text.specs.Digits.{digits_len}
use Rattle.gr_text.specs.Paths.{name_len, names_len, path_len}

-- so many bytes stand at the front, each of ASCII
abbrev pub IsAsciiFront : ℕ → List ℕ → Type 0
IsAsciiFront zero bytes = Unit {0}
IsAsciiFront (suc n) [] = ⊥
IsAsciiFront (suc n) (c ∷ cs) = (c < 128) × IsAsciiFront n cs

within : (n : ℕ) (bytes : List ℕ) → IsAsciiFront n bytes → n ≤ length bytes
within zero bytes front = omega arith
within (suc n) [] front = absurd front
within (suc n) (c ∷ cs) front = omega (arith, within n cs front.1)

each : (n : ℕ) (bytes : List ℕ) (k : ℕ) → IsAsciiFront n bytes → k < n → get_or bytes k 0 < 128
each zero bytes k front inside = absurd (omega arith)
each (suc n) [] k front inside = absurd front
each (suc n) (c ∷ cs) zero front inside = front.0
each (suc n) (c ∷ cs) (suc k) front inside = each n cs k front.1 (omega arith)

IsAscii-front : (n : ℕ) (bytes : List ℕ) → IsAsciiFront n bytes → IsAscii (take n bytes)
IsAscii-front zero bytes front k = omega arith
IsAscii-front (suc n) [] front k = absurd front
IsAscii-front (suc n) (c ∷ cs) front zero = front.0
IsAscii-front (suc n) (c ∷ cs) front (suc k) = IsAscii-front n cs front.1 k

-- the bytes at the front are a text
pub IsUtf8-front : (n : ℕ) (bytes : List ℕ) → IsAsciiFront n bytes → IsUtf8 (take n bytes)
IsUtf8-front n bytes front = IsUtf8-from_ascii (take n bytes) (IsAscii-front n bytes front)

boundary : (n : ℕ) (bytes : List ℕ) → IsUtf8 bytes → IsAsciiFront n bytes → IsCharBoundary bytes n
boundary zero bytes utf8 front = IsCharBoundary-start bytes utf8
boundary (suc n) bytes utf8 front =
    let inside : n < length bytes = omega (arith, within (suc n) bytes front) in
    subst (λ m. IsCharBoundary bytes m) (add-one n) (IsCharBoundary-after_ascii bytes n utf8 inside (each (suc n) bytes n front (omega arith)))

-- and so is what stands behind them
pub IsUtf8-behind : (n : ℕ) (bytes : List ℕ) → IsAsciiFront n bytes → IsUtf8 bytes → IsUtf8 (drop n bytes)
IsUtf8-behind n bytes front utf8 = IsUtf8-drop bytes n utf8 (boundary n bytes utf8 front)

-- bytes that pass a test which only bytes of ASCII pass
IsAsciiFront-prefix : (p : ℕ → Bool) → ((c : ℕ) → p c ≡ true → c < 128) → (bytes : List ℕ) → IsAsciiFront (prefix_len p bytes) bytes
IsAsciiFront-prefix p ascii [] = tt
IsAsciiFront-prefix p ascii (c ∷ cs) = by (p c) (ascii c) (IsAsciiFront-prefix p ascii cs)
  where
    by : (b : Bool) → (b ≡ true → c < 128) → IsAsciiFront (prefix_len p cs) cs → IsAsciiFront (cond b (1 + prefix_len p cs) 0) (c ∷ cs)
    by false ascii others = tt
    by true ascii others = rw one-add (let front : IsAsciiFront (suc (prefix_len p cs)) (c ∷ cs) = (ascii refl, others) in front)

pub IsAsciiFront-blanks : (bytes : List ℕ) → IsAsciiFront (white_space_len bytes) bytes
IsAsciiFront-blanks bytes = IsAsciiFront-prefix is_white_space (λ c blank. grind (arith, nat_tests)) bytes

pub IsAsciiFront-digits : (bytes : List ℕ) → IsAsciiFront (digits_len bytes) bytes
IsAsciiFront-digits bytes = IsAsciiFront-prefix is_ascii_digit (λ c digit. grind (arith, nat_tests)) bytes

name_start : (c : ℕ) → is_name_start c ≡ true → c < 128
name_start c start = grind (arith, nat_tests)

name_rest : (c : ℕ) → is_name_rest c ≡ true → c < 128
name_rest c rest = grind (arith, nat_tests)

pub IsAsciiFront-name : (bytes : List ℕ) → IsAsciiFront (name_len bytes) bytes
IsAsciiFront-name [] = tt
IsAsciiFront-name (c ∷ cs) = by (is_name_start c) (name_start c) (IsAsciiFront-prefix is_name_rest name_rest cs)
  where
    by : (b : Bool) → (b ≡ true → c < 128) → IsAsciiFront (prefix_len is_name_rest cs) cs → IsAsciiFront (cond b (1 + prefix_len is_name_rest cs) 0) (c ∷ cs)
    by false ascii others = tt
    by true ascii others = rw one-add (let front : IsAsciiFront (suc (prefix_len is_name_rest cs)) (c ∷ cs) = (ascii refl, others) in front)

-- names behind so many bytes
IsAsciiFront-names : (pass : ℕ) (bytes : List ℕ) → IsAsciiFront pass bytes → IsAsciiFront (pass + names_len pass bytes) bytes
IsAsciiFront-names zero [] front = tt
IsAsciiFront-names (suc pass) [] front = absurd front
IsAsciiFront-names zero (c ∷ cs) front = rw zero-add (by (c == 46) (nat_lt 0 (name_len cs)) (λ e. grind (arith, nat_tests, e)) (IsAsciiFront-names (name_len cs) cs (IsAsciiFront-name cs)))
  where
    by : (a b : Bool) → (a ≡ true → c < 128) → IsAsciiFront (name_len cs + names_len (name_len cs) cs) cs → IsAsciiFront (cond (a && b) (1 + name_len cs + names_len (name_len cs) cs) 0) (c ∷ cs)
    by false b ascii others = tt
    by true false ascii others = tt
    by true true ascii others =
        let sum : 1 + name_len cs + names_len (name_len cs) cs ≡ suc (name_len cs + names_len (name_len cs) cs) = omega arith in
        rw sum (ascii refl, others)
IsAsciiFront-names (suc pass) (c ∷ cs) front =
    let others = IsAsciiFront-names pass cs front.1 in
    let sum : suc pass + names_len pass cs ≡ suc (pass + names_len pass cs) = omega arith in
    rw sum (front.0, others)

pub IsAsciiFront-path : (bytes : List ℕ) → IsAsciiFront (path_len bytes) bytes
IsAsciiFront-path bytes = by (nat_lt 0 (name_len bytes)) (IsAsciiFront-names (name_len bytes) bytes (IsAsciiFront-name bytes))
  where
    by : (b : Bool) → IsAsciiFront (name_len bytes + names_len (name_len bytes) bytes) bytes → IsAsciiFront (cond b (name_len bytes + names_len (name_len bytes) bytes) 0) bytes
    by false front = tt
    by true front = front
