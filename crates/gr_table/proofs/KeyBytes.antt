-- The bytes of keys tell keys of one type apart.
use Rattle.std.proofs.Common.{◌≡◌, ℕ, zero, suc, ◌+◌, ◌*◌, ◌%◌, ◌^◌, ◌<◌, ℤ, List, sym, ap, ◌∙◌, subst, arith, fold, pow-suc, mul_comm, SFits}
use Rattle.std.proofs.Math.Nat.{pow-le-pow_right}
use Rattle.std.proofs.Math.Arith.{mod-mul}
use Rattle.std.proofs.Math.Facts.{Fits-lt-pow, Fits-of_z, to_z-of_z}
use Rattle.std.proofs.lemmas.Int.{ints}
use Rattle.std.specs.Int.{w128, byte_at, bytes_high_first, cast_signed, cast_unsigned}
use Rattle.gr_values.specs.declared.data_type.DataType.{DataType}
use Rattle.gr_values.specs.declared.data_type.DataType.TheVariants.{Bool as Truth, Int8, Int16, Int32, Int64, UInt8, UInt16, UInt32, UInt64, ShortText, Text, LongText}
use Rattle.gr_values.specs.declared.value.Key.{Key}
use Rattle.gr_values.specs.Fits.{IsKeyOf, IsTextKey, IsWhole}
use Rattle.gr_table.specs.Inside.Bytes.{key_bytes}

-- one more byte in front of the low k bytes
byte_on : (k n high : ℕ) → (high * 256 + byte_at k n) * 256 ^ k + n % 256 ^ k ≡ high * 256 ^ suc k + n % 256 ^ suc k
byte_on zero n high = omega arith
byte_on (suc k) n high =
    let unit = 256 ^ suc k in
    let wider : 256 ^ suc (suc k) ≡ 256 * unit = pow-suc 256 (suc k) ∙ mul_comm unit 256 in
    let some : 0 < unit = pow-le-pow_right {n = 256} (omega arith) {i = 0} {j = suc k} (omega arith) in
    rw (wider, mod-mul n {m = 256} {c = unit} (omega arith) some) (omega arith)

-- the number that bytes write, the highest first
bytes_read : (k n high : ℕ) → fold (λ h byte. h * 256 + byte) high (bytes_high_first k n) ≡ high * 256 ^ k + n % 256 ^ k
bytes_read zero n high = omega arith
bytes_read (suc k) n high = bytes_read k n (high * 256 + byte_at k n) ∙ byte_on k n high

low_bytes : (k n : ℕ) → fold (λ h byte. h * 256 + byte) 0 (bytes_high_first k n) ≡ n % 256 ^ k
low_bytes k n = bytes_read k n 0 ∙ omega arith

-- a whole number of a type has 128 bits with a sign
fits_wide : (of : DataType) (z : ℤ) → IsWhole of z → SFits w128 z
fits_wide Truth z is = absurd is
fits_wide Int8 z is = search (arith, ints, is.low, is.high)
fits_wide Int16 z is = search (arith, ints, is.low, is.high)
fits_wide Int32 z is = search (arith, ints, is.low, is.high)
fits_wide Int64 z is = search (arith, ints, is.low, is.high)
fits_wide UInt8 z is = search (arith, ints, is.low, is.high)
fits_wide UInt16 z is = search (arith, ints, is.low, is.high)
fits_wide UInt32 z is = search (arith, ints, is.low, is.high)
fits_wide UInt64 z is = search (arith, ints, is.low, is.high)
fits_wide ShortText z is = absurd is
fits_wide Text z is = absurd is
fits_wide LongText z is = absurd is

-- 16 bytes tell two numbers of 128 bits apart
same_number : (a b : ℤ) → SFits w128 a → SFits w128 b → bytes_high_first 16 (cast_unsigned w128 a) ≡ bytes_high_first 16 (cast_unsigned w128 b) → a ≡ b
same_number a b fa fb same =
    let ba : cast_unsigned w128 a < 2 ^ 128 = Fits-lt-pow (Fits-of_z fa) in
    let bb : cast_unsigned w128 b < 2 ^ 128 = Fits-lt-pow (Fits-of_z fb) in
    let read : cast_unsigned w128 a % 256 ^ 16 ≡ cast_unsigned w128 b % 256 ^ 16 =
    sym (low_bytes 16 (cast_unsigned w128 a)) ∙ ap (fold (λ h byte. h * 256 + byte) 0) same ∙ low_bytes 16 (cast_unsigned w128 b) in
    let equal : cast_unsigned w128 a ≡ cast_unsigned w128 b = omega (arith, read, ba, bb) in
    sym (to_z-of_z fa) ∙ ap (cast_signed w128) equal ∙ to_z-of_z fb

-- no number is a key of texts
no_number : (of : DataType) (z : ℤ) (text : List ℕ) → IsWhole of z → IsTextKey of text → ⊥
no_number of z text whole is = subst (λ type. IsWhole type z) is.short whole

-- keys of one type with the same bytes are one
pub same_key : (of : DataType) (a b : Key) → IsKeyOf of a → IsKeyOf of b → key_bytes a ≡ key_bytes b → a ≡ b
same_key of (Key.Number a) (Key.Number b) ka kb same = ap Key.Number (same_number a b (fits_wide of a ka) (fits_wide of b kb) same)
same_key of (Key.Number a) (Key.Text b) ka kb same = absurd (no_number of a b ka kb)
same_key of (Key.Text a) (Key.Number b) ka kb same = absurd (no_number of b a kb ka)
same_key of (Key.Text a) (Key.Text b) ka kb same = ap Key.Text same
