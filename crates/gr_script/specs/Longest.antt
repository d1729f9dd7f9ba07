-- What a token is by itself, whatever stands behind it, so that it can be said which one is the longest.
use Rattle.std.specs.Prelude.{◌≡◌, ℕ, Bool, true, Some, List, [], ◌∷◌, ◌++◌}
use Rattle.std.specs.Char.{is_ascii_digit}
use Rattle.std.specs.Str.{byte}
use Rattle.gr_script.specs.declared.token.Symbol.{Symbol}
use Rattle.gr_script.specs.Token.{long_symbol, short_symbol}
use Rattle.gr_text.specs.Characters.{is_name_rest, is_name_start}
use Rattle.gr_text.specs.Strings.{is_plain}

-- each byte is one of these
abbrev pub AreAll : (ℕ → Bool) → List ℕ → Type 0
AreAll is_one [] = Unit {0}
AreAll is_one (c ∷ cs) = (is_one c ≡ true) × AreAll is_one cs

-- a letter or `_`, and then letters, digits and `_`
abbrev pub IsName : List ℕ → Type 0
IsName [] = ⊥
IsName (c ∷ cs) = (is_name_start c ≡ true) × AreAll is_name_rest cs

-- names joined by dots
pub data IsPath : List ℕ → Type 0 where
  a_name : {text : List ℕ} → IsName text → IsPath text
  a_dot : {text : List ℕ} (name rest : List ℕ) → text ≡ name ++ (byte "." ∷ rest) → IsName name → IsPath rest → IsPath text

-- What stands behind the quote that opens a string: characters, each a plain one or any one behind a backslash, and the quote that closes it.
pub data IsQuoted : List ℕ → Type 0 where
  a_quote : {c : ℕ} → c ≡ byte "\"" → IsQuoted (c ∷ [])
  a_plain : {c : ℕ} {cs : List ℕ} → is_plain c ≡ true → IsQuoted cs → IsQuoted (c ∷ cs)
  an_escape : {c d : ℕ} {cs : List ℕ} → c ≡ byte "\\" → IsQuoted cs → IsQuoted (c ∷ d ∷ cs)

-- a mark of one byte or of two, digits, a string, or a path
pub data IsToken : List ℕ → Type 0 where
  a_short_mark : {c : ℕ} {mark : Symbol} → short_symbol c ≡ Some mark → IsToken (c ∷ [])
  a_long_mark : {c d : ℕ} {mark : Symbol} → long_symbol c d ≡ Some mark → IsToken (c ∷ d ∷ [])
  some_digits : {c : ℕ} {cs : List ℕ} → AreAll is_ascii_digit (c ∷ cs) → IsToken (c ∷ cs)
  a_string : {c : ℕ} {cs : List ℕ} → c ≡ byte "\"" → IsQuoted cs → IsToken (c ∷ cs)
  a_path : {text : List ℕ} → IsPath text → IsToken text
