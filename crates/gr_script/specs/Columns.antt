-- The grammar of match columns, and what the tokens of a text are by it.
use Rattle.std.specs.Prelude.{◌≡◌, ◌-◌, ◌^◌, ℕ, Bool, true, false, ◌&&◌, nat_le, min, not, unwrap_or, is_some, if◌then◌else◌, Option, Some, None, List, [], ◌∷◌}
use Rattle.gr_base.specs.declared.fault.FaultKind.{FaultKind}
use Rattle.gr_base.specs.declared.fault.FaultKind.TheVariants.{BadScript}
use Rattle.gr_ast.specs.declared.columns.MatchColumn.{MatchColumn}
use Rattle.gr_ast.specs.declared.limits.TheConstants.{LEAST_WEIGHT, MOST_WEIGHT}
use Rattle.gr_script.specs.declared.token.Symbol.TheVariants as s
use Rattle.gr_script.specs.declared.token.Token.{Token}
use Rattle.gr_script.specs.declared.token.Token.TheVariants.{Symbol as symbol, Digits as digits, Text as text, Path as path}
use Rattle.gr_script.specs.Token.{Lexeme}
use Rattle.gr_script.specs.Words.{greatest, reserved}
use Rattle.gr_text.specs.Cut.{Cut}
use Rattle.gr_text.specs.Fault.{TextFault}
use Rattle.gr_text.specs.Sentences as of_grammar

-- a column's path
abbrev pub column_word : Token → Option (List ℕ)
column_word (symbol mark) = None
column_word (digits n) = None
column_word (text bytes) = None
column_word (path word) = if is_some (reserved word) then None else Some word

-- A weight. One above the greatest of 32 bits stands as that one: no text that has one has columns.
abbrev pub weight_of : Token → Option ℕ
weight_of (digits value) = Some (min (unwrap_or value greatest) (2 ^ 32 - 1))
weight_of _ = None

-- whether a token is the mark before a weight
abbrev pub is_star : Token → Bool
is_star (symbol s.Star) = true
is_star _ = false

-- whether a token is the mark between columns
abbrev pub is_or : Token → Bool
is_or (symbol s.Or) = true
is_or _ = false

-- a column at this place
abbrev pub column : List ℕ → ℕ → ℕ → MatchColumn
column word at weight = record { path = word; at = at; weight = weight }

-- the column with this weight
abbrev pub weighted : ℕ → MatchColumn → MatchColumn
weighted weight of = record { path = of.path; at = of.at; weight = weight }

mutual
  -- the tokens are these columns, joined by `||`
  pub data Columns : List Lexeme → List MatchColumn → Type 0 where
    a_column : {t : Lexeme} {ts : List Lexeme} {word : List ℕ} {columns : List MatchColumn} → column_word t.token ≡ Some word → Weighing (column word t.at LEAST_WEIGHT) ts columns → Columns (t ∷ ts) columns

  -- behind a column's path, the tokens are its weight, or no weight, and further columns
  pub data Weighing : MatchColumn → List Lexeme → List MatchColumn → Type 0 where
    no_weight : {first : MatchColumn} {ts : List Lexeme} {columns : List MatchColumn} → Further first ts columns → Weighing first ts columns
    a_weight : {first : MatchColumn} {t u : Lexeme} {ts : List Lexeme} {weight : ℕ} {columns : List MatchColumn} → is_star t.token ≡ true → weight_of u.token ≡ Some weight → Further (weighted weight first) ts columns → Weighing first (t ∷ u ∷ ts) columns

  -- behind a column, the tokens are further columns
  pub data Further : MatchColumn → List Lexeme → List MatchColumn → Type 0 where
    no_column : {first : MatchColumn} → Further first [] (first ∷ [])
    another : {first : MatchColumn} {t : Lexeme} {ts : List Lexeme} {columns : List MatchColumn} → is_or t.token ≡ true → Columns ts columns → Further first (t ∷ ts) (first ∷ columns)

-- the tokens are these columns; a level is never opened
abbrev pub AreColumns : ℕ → List Lexeme → List MatchColumn → Type 0
AreColumns levels ts columns = Columns ts columns

-- whether a token is a number that is no weight
abbrev pub is_no_weight : Token → Bool
is_no_weight (symbol mark) = false
is_no_weight (digits None) = true
is_no_weight (digits (Some n)) = not (nat_le LEAST_WEIGHT n && nat_le n MOST_WEIGHT)
is_no_weight (text bytes) = false
is_no_weight (path word) = false

-- what is cut so is these columns, in which each weight is 1 to 1,000
abbrev pub IsColumns : Cut Token → List MatchColumn → Type 0
IsColumns cut columns = of_grammar.IsRead AreColumns is_no_weight cut columns

-- What is cut so is refused as columns, for this and at this place.
abbrev pub AreRefused : Cut Token → FaultKind → ℕ → Type 0
AreRefused cut kind at = of_grammar.IsRefused AreColumns is_no_weight BadScript cut kind at

-- What is cut so is refused as the fault says. Nothing is said of want of memory.
abbrev pub AreRefusal : Cut Token → TextFault → Type 0
AreRefusal cut fault = of_grammar.IsRefusal AreColumns is_no_weight BadScript cut fault
