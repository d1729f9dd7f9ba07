-- Tokens of a script, and where they stand.
use Rattle.std.specs.Prelude.{ℕ, suc, ◌==◌, ◌&&◌, if◌then◌else◌, Option, Some, None, option_map, List, [], ◌∷◌, take, slice_index, IsUtf8}
use Rattle.std.specs.Char.{is_ascii_digit}
use Rattle.std.specs.Str.{byte}
use Rattle.gr_text.specs.Characters.{is_name_start}
use Rattle.gr_text.specs.Cut.{Placed, Cut, cut}
use Rattle.gr_text.specs.Digits.{digits_len, number_from, word_of}
use Rattle.gr_text.specs.Paths.{path_len}
use Rattle.gr_text.specs.Strings.{string_from}
use Rattle.gr_script.specs.declared.token.Symbol.{Symbol}
use Rattle.gr_script.specs.declared.token.Symbol.TheVariants as s
use Rattle.gr_script.specs.declared.token.Token.{Token}
use Rattle.gr_script.specs.declared.token.Token.TheVariants.{Symbol as symbol, Digits as digits, Text as text, Path as path}

-- a token at its byte place
abbrev pub Lexeme : Type 0
Lexeme = Placed Token

-- the mark that two bytes are
abbrev pub long_symbol : ℕ → ℕ → Option Symbol
long_symbol c d =
    if c == byte "|" && d == byte "|" then Some s.Or
    else (if c == byte "&" && d == byte "&" then Some s.And
    else (if c == byte "&" && d == byte "!" then Some s.Without
    else (if c == byte "=" && d == byte "=" then Some s.Eq
    else (if c == byte "!" && d == byte "=" then Some s.Ne
    else (if c == byte "<" && d == byte "=" then Some s.Le
    else (if c == byte ">" && d == byte "=" then Some s.Ge
    else (if c == byte "@" && d == byte "^" then Some s.Prefix
    else (if c == byte "@" && d == byte "$" then Some s.Suffix
    else None))))))))

-- the mark that one byte is
abbrev pub short_symbol : ℕ → Option Symbol
short_symbol c =
    if c == byte "(" then Some s.Open
    else (if c == byte ")" then Some s.Close
    else (if c == byte "," then Some s.Comma
    else (if c == byte "<" then Some s.Lt
    else (if c == byte ">" then Some s.Gt
    else (if c == byte "@" then Some s.Match
    else (if c == byte "+" then Some s.Plus
    else (if c == byte "-" then Some s.Minus
    else (if c == byte "*" then Some s.Star
    else (if c == byte "/" then Some s.Slash
    else (if c == byte "%" then Some s.Percent
    else (if c == byte "!" then Some s.Not
    else None)))))))))))

-- the longer of two marks, and its length
abbrev pub longer : Option Symbol → Option Symbol → Option (Token × ℕ)
longer (Some mark) short = Some (symbol mark, 2)
longer None short = option_map (λ mark. (symbol mark, 1)) short

-- a string, with its opening quote
abbrev pub text_token : Option (List ℕ × ℕ) → Option (Token × ℕ)
text_token string = option_map (λ string. (text string.0, suc string.1)) string

-- digits, where no letter or `_` follows them
abbrev pub digits_token : List ℕ → Option (Token × ℕ)
digits_token bytes =
    if is_name_start (slice_index bytes (digits_len bytes)) then None else Some (digits (word_of (number_from bytes)), digits_len bytes)

-- names joined by dots
abbrev pub path_token : List ℕ → Option (Token × ℕ)
path_token bytes = Some (path (take (path_len bytes) bytes), path_len bytes)

-- the token that some bytes begin with, as long as it goes, and how many bytes it has
abbrev pub token_at : List ℕ → Option (Token × ℕ)
token_at [] = None
token_at (c ∷ cs) =
    if c == byte "\"" then text_token (string_from cs)
    else (if is_ascii_digit c then digits_token (c ∷ cs)
    else (if is_name_start c then path_token (c ∷ cs)
    else longer (long_symbol c (slice_index cs 0)) (short_symbol c)))

-- a script's tokens
abbrev pub tokens_of : List ℕ → Cut Token
tokens_of script = cut token_at script

-- the texts that a token holds are UTF-8
abbrev pub IsText : Token → Type 0
IsText (symbol mark) = Unit {0}
IsText (digits value) = Unit {0}
IsText (text bytes) = IsUtf8 bytes
IsText (path word) = IsUtf8 word
