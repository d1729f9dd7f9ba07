-- How a text, which is seen as its bytes in UTF-8, is cut into tokens.
use Rattle.std.specs.Prelude.{ℕ, Bool, ◌&&◌, ◌==◌, nat_le, List, [], ◌∷◌, ◌++◌, length, filter, encode_utf8}
use Rattle.std.specs.List.{slice_split}
use Rattle.std.specs.Str.{chars}
use Rattle.gr_tokens.specs.declared.tokenizer.Tokenizer.{Tokenizer}
use Rattle.gr_tokens.specs.declared.tokenizer.Tokenizer.TheVariants.{Delimit, Bigram}

-- whether a byte is the space, U+0020
abbrev pub is_space : ℕ → Bool
is_space byte = byte == 32

-- whether a piece of a text between spaces is a word: it has 1 to 4,096 bytes
abbrev pub is_word : List ℕ → Bool
is_word piece = nat_le 1 (length piece) && nat_le (length piece) 4096

-- the words of a text in order
unfoldable pub words : List ℕ → List (List ℕ)
words text = filter is_word (slice_split is_space text)

-- at each of some characters that one and the next, and at the last one that one alone
unfoldable pub bigrams : List ℕ → List (List ℕ)
bigrams [] = []
bigrams (last ∷ []) = encode_utf8 last ∷ []
bigrams (first ∷ second ∷ more) = (encode_utf8 first ++ encode_utf8 second) ∷ bigrams (second ∷ more)

-- the tokens of a text in order; a token's position is its place in this list
abbrev pub tokens : Tokenizer → List ℕ → List (List ℕ)
tokens Delimit text = words text
tokens Bigram text = bigrams (chars text)
