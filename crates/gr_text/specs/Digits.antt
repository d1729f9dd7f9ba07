-- Numbers in decimal, of any length.
use Rattle.std.specs.Prelude.{ℕ, ◌^◌, nat_lt, if◌then◌else◌, Option, Some, None, List}
use Rattle.std.specs.Char.{is_ascii_digit}
use Rattle.std.specs.List.{prefix_len, take_while}
use Rattle.std.specs.Str.Parse.{digits_value}

-- how many digits the bytes begin with
abbrev pub digits_len : List ℕ → ℕ
digits_len bytes = prefix_len is_ascii_digit bytes

-- the number that the digits mean with which the bytes begin
abbrev pub number_from : List ℕ → ℕ
number_from bytes = digits_value 10 (take_while is_ascii_digit bytes)

-- a number, where 64 bits hold it
abbrev pub word_of : ℕ → Option ℕ
word_of n = if nat_lt n (2 ^ 64) then Some n else None
