-- The words of a line: between blanks, or in quotes.
use Rattle.std.specs.Prelude.{ℕ, ◌==◌, ◌||◌, Bool, true, false, if◌then◌else◌, Option, Some, None, option_map, List, [], ◌∷◌, ◌++◌, encode_utf8}
use Rattle.std.specs.Str.{byte}
use Rattle.gr_base.specs.Text.{is_blank}

-- a double or a single quote
abbrev pub is_quote : ℕ → Bool
is_quote c = c == byte "\"" || c == byte "'"

-- what a character behind a backslash stands for
abbrev pub escaped : ℕ → ℕ
escaped c = if c == byte "n" then byte "\n" else (if c == byte "t" then byte "\t" else c)

-- a word without its quotes, and whether it stood in quotes
pub record Word : Type 0 where
  pub text : List ℕ
  pub quoted : Bool

-- where a character of a line stands; a word in quotes ends at the quote that it began with
pub data Place : Type 0 where
  between : Place
  in_word : Place
  in_quotes : ℕ → Place
  behind_backslash : ℕ → Place
  behind_quotes : Place

-- the rest of a word, and the words after it
pub record Rest : Type 0 where
  pub text : List ℕ
  pub words : List Word

-- a character more in front of the rest of a word
abbrev pub with_char : ℕ → Rest → Rest
with_char c rest = record { text = encode_utf8 c ++ rest.text; words = rest.words }

-- a text in front of the rest of a word
abbrev pub with_text : List ℕ → Rest → Rest
with_text text rest = record { text = text ++ rest.text; words = rest.words }

-- a text in front of words
abbrev pub rest_with : List ℕ → List Word → Rest
rest_with text words = record { text = text; words = words }

-- the rest of a word as a whole one
abbrev pub as_word : Bool → Rest → Rest
as_word quoted rest = rest_with [] (record { text = rest.text; quoted = quoted } ∷ rest.words)

-- how a line goes on from a place; a quote that is not closed, or behind which no blank stands, makes a bad line
abbrev pub rest_from : Place → List ℕ → Option Rest
rest_from between [] = Some (rest_with [] [])
rest_from between (c ∷ cs) =
    if is_blank c then rest_from between cs
    else (if is_quote c then option_map (as_word true) (rest_from (in_quotes c) cs)
    else option_map (λ rest. as_word false (with_char c rest)) (rest_from in_word cs))
rest_from in_word [] = Some (rest_with [] [])
rest_from in_word (c ∷ cs) =
    if is_blank c then option_map (λ rest. rest_with [] rest.words) (rest_from between cs)
    else option_map (with_char c) (rest_from in_word cs)
rest_from (in_quotes quote) [] = None
rest_from (in_quotes quote) (c ∷ cs) =
    if c == quote then rest_from behind_quotes cs
    else (if c == byte "\\" then rest_from (behind_backslash quote) cs
    else option_map (with_char c) (rest_from (in_quotes quote) cs))
rest_from (behind_backslash quote) [] = None
rest_from (behind_backslash quote) (c ∷ cs) = option_map (with_char (escaped c)) (rest_from (in_quotes quote) cs)
rest_from behind_quotes [] = Some (rest_with [] [])
rest_from behind_quotes (c ∷ cs) =
    if is_blank c then option_map (λ rest. rest_with [] rest.words) (rest_from between cs) else None

-- the words of a line of these characters
abbrev pub words : List ℕ → Option (List Word)
words line = option_map (λ rest. rest.words) (rest_from between line)
