-- Names are ASCII, and so UTF-8.
use Rattle.std.proofs.Common.{ℕ, zero, suc, ◌≡◌, ◌<◌, Bool, true, false, ◌&&◌, ◌||◌, ◌==◌, nat_le, List, [], ◌∷◌, length, arith}
use Rattle.std.specs.Prelude.{IsUtf8}
use Rattle.std.specs.Char.{is_ascii_alphabetic, is_ascii_alphanumeric}
use Rattle.std.specs.List.{list_all}
use Rattle.std.specs.Str.{IsAscii}
use Rattle.std.proofs.lemmas.Bool.{and_parts}
use Rattle.std.proofs.lemmas.Bool.Decides.{nat_tests}
use Rattle.std.proofs.lemmas.Str.{IsUtf8-from_ascii}
use Rattle.gr_base.specs.Name.{is_name, is_name_byte}

letter_low : (byte : ℕ) → is_ascii_alphabetic byte ≡ true → byte < 128
letter_low byte e = grind (arith, nat_tests)

byte_low : (byte : ℕ) → is_name_byte byte ≡ true → byte < 128
byte_low byte e = grind (arith, nat_tests)

bytes_low : (bytes : List ℕ) → list_all is_name_byte bytes ≡ true → IsAscii bytes
bytes_low [] e i = omega arith
bytes_low (byte ∷ bytes) e zero = byte_low byte (and_parts (is_name_byte byte) (list_all is_name_byte bytes) e).0
bytes_low (byte ∷ bytes) e (suc i) = bytes_low bytes (and_parts (is_name_byte byte) (list_all is_name_byte bytes) e).1 i

name_low : (first : ℕ) (rest : List ℕ) → is_ascii_alphabetic first ≡ true → list_all is_name_byte rest ≡ true → IsAscii (first ∷ rest)
name_low first rest letter bytes zero = letter_low first letter
name_low first rest letter bytes (suc i) = bytes_low rest bytes i

pub name_utf8 : (name : List ℕ) → is_name name ≡ true → IsUtf8 name
name_utf8 [] e = absurd (cc)
name_utf8 (first ∷ rest) e =
    let parts = and_parts (is_ascii_alphabetic first && list_all is_name_byte rest) _ e in
    let both = and_parts (is_ascii_alphabetic first) (list_all is_name_byte rest) parts.0 in
    IsUtf8-from_ascii (first ∷ rest) (name_low first rest both.0 both.1)
