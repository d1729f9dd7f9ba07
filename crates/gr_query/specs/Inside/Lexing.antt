-- Texts of tokens, where they stand.
use Rattle.std.specs.Prelude.{◌≡◌, ℕ, ◌+◌, ◌<◌, ◌≤◌, List, length, drop, IsUtf8}
use Rattle.gr_ast.specs.Made.{SeeksWord}
use Rattle.gr_query.specs.declared.token.Token.{Token}
use Rattle.gr_query.specs.declared.token.Token.TheVariants.{Word, Field}

-- a token's bytes are text, and a word is sought as words are
abbrev pub IsText : Token → Type 0
IsText (Word seek text) = SeeksWord seek × IsUtf8 text
IsText (Field path test text) = IsUtf8 path × IsUtf8 text
IsText _ = Unit {0}

-- a text of these bytes: how many it takes, and that it and what stands behind it are text
pub record IsTextHeld (bytes : List ℕ) (found : List ℕ × ℕ) : Type 0 where
  pub some : 0 < found.1
  pub within : found.1 ≤ length bytes
  pub text : IsUtf8 found.0
  pub rest : IsUtf8 (drop found.1 bytes)

-- a token that has so many bytes before these: that it and what stands behind it are text
pub record IsHeldBehind (read : ℕ) (left : List ℕ) (found : Token × ℕ) : Type 0 where
  pub more : ℕ
  pub counted : found.1 ≡ read + more
  pub within : more ≤ length left
  pub text : IsText found.0
  pub rest : IsUtf8 (drop more left)
