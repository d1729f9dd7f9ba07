-- Where the tokens of a script end.
use Rattle.std.proofs.Common.{◌≡◌, ℕ, ◌+◌, ◌<◌, ◌≤◌, List, [], ◌∷◌, IsTrue, IsUtf8, length, drop, get_or, subst, ap, arith}
use Rattle.std.proofs.lemmas.Bool.{lt-ltb}
use Rattle.std.specs.Char.{is_ascii_digit}
use Rattle.std.specs.List.{prefix_len}
use Rattle.gr_text.specs.Characters.{is_name_rest, is_name_start}
use Rattle.gr_text.specs.Digits.{digits_len}
use Rattle.gr_text.specs.Paths.{path_len}
use Rattle.gr_text.proofs.Ascii.{IsUtf8-behind}

pub digits_len-some : (bytes : List ℕ) → IsTrue (is_ascii_digit (get_or bytes 0 0)) → 0 < digits_len bytes
digits_len-some [] digit = cc
digits_len-some (c ∷ cs) digit = rw digit (omega arith)

pub path_len-some : (bytes : List ℕ) → IsTrue (is_name_start (get_or bytes 0 0)) → 0 < path_len bytes
path_len-some [] name = cc
path_len-some (c ∷ cs) name = let some : 0 < 1 + prefix_len is_name_rest cs = omega arith in rw (name, lt-ltb 0 (1 + prefix_len is_name_rest cs) some) (omega arith)

-- what stands behind one byte of ASCII
pub IsUtf8-behind_one : {bytes others : List ℕ} {c : ℕ} → bytes ≡ c ∷ others → c < 128 → IsUtf8 bytes → IsUtf8 others
IsUtf8-behind_one {bytes} {others} {c} parts ascii utf8 = IsUtf8-behind 1 (c ∷ others) (ascii, tt) (subst IsUtf8 parts utf8)

-- two bytes of ASCII stand at the front
pub record BeginsWithTwo (bytes others : List ℕ) (c d : ℕ) : Type 0 where
  pub parts : bytes ≡ c ∷ others
  pub second : d ≡ get_or others 0 0
  pub some : 0 < d
  pub ascii : c < 128
  pub ascii_second : d < 128

pub length-BeginsWithTwo : {bytes others : List ℕ} {c d : ℕ} → BeginsWithTwo bytes others c d → 2 ≤ length bytes
length-BeginsWithTwo {bytes} {others} {c} {d} begins = by others begins.parts begins.second
  where
    by : (others : List ℕ) → bytes ≡ c ∷ others → d ≡ get_or others 0 0 → 2 ≤ length bytes
    by [] parts second = absurd (omega (arith, second, begins.some))
    by (e ∷ rest) parts second = omega (arith, ap length parts)

pub IsUtf8-behind_two : {bytes others : List ℕ} {c d : ℕ} → BeginsWithTwo bytes others c d → IsUtf8 bytes → IsUtf8 (drop 2 bytes)
IsUtf8-behind_two {bytes} {others} {c} {d} begins utf8 = by others begins.parts begins.second
  where
    by : (others : List ℕ) → bytes ≡ c ∷ others → d ≡ get_or others 0 0 → IsUtf8 (drop 2 bytes)
    by [] parts second = absurd (omega (arith, second, begins.some))
    by (e ∷ rest) parts second = let ascii : e < 128 = omega (arith, second, begins.ascii_second) in IsUtf8-behind 2 bytes (rw parts (begins.ascii, (ascii, tt))) utf8
