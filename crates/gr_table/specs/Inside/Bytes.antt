-- The byte strings of keys.
use Rattle.std.specs.Prelude.{ℕ, List}
use Rattle.std.specs.Int.{w128, cast_unsigned, to_be_bytes}
use Rattle.gr_values.specs.declared.value.Key.{Key}

-- a text's bytes, and a number in 16 bytes, the most significant first
abbrev pub key_bytes : Key → List ℕ
key_bytes (Key.Number number) = to_be_bytes w128 (cast_unsigned w128 number)
key_bytes (Key.Text text) = text
