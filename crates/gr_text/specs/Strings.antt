-- Texts between quotes.
use Rattle.std.specs.Prelude.{ℕ, ◌+◌, Bool, not, ◌||◌, ◌==◌, if◌then◌else◌, Option, Some, None, List, [], ◌∷◌}
use Rattle.std.specs.Str.{byte}

-- neither a quote nor a backslash
abbrev pub is_plain : ℕ → Bool
is_plain c = not (c == byte "\"" || c == byte "\\")

-- a text with this byte before it, for which so many more bytes were read
abbrev pub with_byte : ℕ → ℕ → Option (List ℕ × ℕ) → Option (List ℕ × ℕ)
with_byte c read None = None
with_byte c read (Some (text, len)) = Some (c ∷ text, read + len)

-- What stands after an opening `"`: the text meant, and how many bytes it takes with its closing `"`. `\` and a byte stand for that byte.
abbrev pub string_from : List ℕ → Option (List ℕ × ℕ)
string_from [] = None
string_from (c ∷ []) = if c == byte "\"" then Some ([], 1) else None
string_from (c ∷ d ∷ rest) =
    if c == byte "\"" then Some ([], 1)
    else (if c == byte "\\" then with_byte d 2 (string_from rest)
    else with_byte c 1 (string_from (d ∷ rest)))
