-- Tokens, one after another.
use Rattle.std.specs.Prelude.{ℕ, ◌+◌, ◌<◌, ◌≤◌, ◌^◌, Option, Some, None, List, [], ◌∷◌, length, drop, IsUtf8}
use Rattle.gr_text.specs.Cut.{Cut, Placed, cut_from}
use Rattle.gr_text.specs.declared.lexer.Found.{Found}
use Rattle.gr_text.specs.declared.lexer.Found.TheVariants as found
use Rattle.gr_text.specs.declared.lexer.Lexeme.{Lexeme}

-- the bytes from a place on are text, and each of their places is a number of 64 bits
pub record IsReadable (at : ℕ) (bytes : List ℕ) : Type 0 where
  pub text : IsUtf8 bytes
  pub fits : at + length bytes < 2 ^ 64

-- a token of these bytes: how many it has, and that it and what stands behind it are text
pub record IsHeld {T : Type 0} (IsText : T → Type 0) (bytes : List ℕ) (found : T × ℕ) : Type 0 where
  pub some : 0 < found.1
  pub within : found.1 ≤ length bytes
  pub text : IsText found.0
  pub rest : IsUtf8 (drop found.1 bytes)

module _ {T : Type 0} where
  -- what is left to be read, from a place on
  abbrev pub left_of : (List ℕ → Option (T × ℕ)) → ℕ × List ℕ → Cut T
  left_of starts lexer = cut_from starts lexer.0 0 lexer.1

  -- a token at its place, as the grammar sees it
  abbrev pub placed : Lexeme T → Placed T
  placed lexeme = record { at = lexeme.at; token = lexeme.token }

  -- the next token, or the place where none begins, or the end
  abbrev pub next_of : List (Placed T) → Option ℕ → Found T
  next_of (lexeme ∷ lexemes) stranger = found.Lexeme (record { at = lexeme.at; token = lexeme.token })
  next_of [] (Some at) = found.Stranger at
  next_of [] None = found.End

  -- what is found first in what is left of a text
  abbrev pub found_in : Cut T → Found T
  found_in cut = next_of cut.tokens cut.stranger

  -- the tokens behind the first
  abbrev pub others : List (Placed T) → List (Placed T)
  others [] = []
  others (lexeme ∷ lexemes) = lexemes

  -- what is left behind the next token
  abbrev pub behind : Cut T → Cut T
  behind cut = record { tokens = others cut.tokens; stranger = cut.stranger; length = cut.length }

  -- what is found holds texts alone
  abbrev pub Finds : (T → Type 0) → Found T → Type 0
  Finds IsText (found.Lexeme lexeme) = IsText lexeme.token
  Finds IsText (found.Stranger at) = Unit {0}
  Finds IsText found.End = Unit {0}
