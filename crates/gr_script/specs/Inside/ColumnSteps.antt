-- How match columns are read from the left in one pass.
use Rattle.std.specs.Prelude.{ℕ, Bool, true, false, if◌then◌else◌, Option, Some, None, List, [], ◌∷◌, ◌++◌, Result, Ok, Err, ◌≡◌}
use Rattle.gr_ast.specs.declared.columns.MatchColumn.{MatchColumn}
use Rattle.gr_ast.specs.declared.limits.TheConstants.{LEAST_WEIGHT}
use Rattle.gr_script.specs.declared.column.Place.{Place}
use Rattle.gr_script.specs.declared.column.Place.TheVariants.{Path, Behind, Weight, Weighted}
use Rattle.gr_script.specs.Columns.{column_word, weight_of, is_star, is_or, column, weighted}
use Rattle.gr_script.specs.Token.{Lexeme}
use Rattle.gr_text.specs.Inside.Reading.{Outcome, goes, wrong}
use Rattle.gr_text.specs.declared.stop.Stop.{Stop}
use Rattle.gr_text.specs.declared.stop.Stop.TheVariants as stop

-- what comes next, and the columns read so far
pub data State : Type 0 where
  state : Place → List MatchColumn → State

-- a column's path
abbrev pub path_read : Option (List ℕ) → ℕ → List MatchColumn → Outcome State
path_read None at columns = wrong
path_read (Some word) at columns = goes (state (Behind (column word at LEAST_WEIGHT)) columns)

-- a column's weight
abbrev pub weight_read : Option ℕ → MatchColumn → List MatchColumn → Outcome State
weight_read None first columns = wrong
weight_read (Some weight) first columns = goes (state (Weighted (weighted weight first)) columns)

-- `||` behind a column
abbrev pub joined : Bool → MatchColumn → List MatchColumn → Outcome State
joined true first columns = goes (state Path (columns ++ (first ∷ [])))
joined false first columns = wrong

-- the next token
abbrev pub column_step : Place → List MatchColumn → Lexeme → Outcome State
column_step Path columns t = path_read (column_word t.token) t.at columns
column_step (Behind first) columns t = if is_star t.token then goes (state (Weight first) columns) else joined (is_or t.token) first columns
column_step (Weight first) columns t = weight_read (weight_of t.token) first columns
column_step (Weighted first) columns t = joined (is_or t.token) first columns

-- the same of a state
abbrev pub columns_step_of : State → Lexeme → Outcome State
columns_step_of (state place columns) t = column_step place columns t

-- before the first token; a level is never opened
abbrev pub columns_begin : ℕ → State
columns_begin levels = state Path []

-- the columns, where they end here
abbrev pub columns_end : Place → List MatchColumn → Option (List MatchColumn)
columns_end Path columns = None
columns_end (Behind first) columns = Some (columns ++ (first ∷ []))
columns_end (Weight first) columns = None
columns_end (Weighted first) columns = Some (columns ++ (first ∷ []))

-- the columns of a text that ends in this state
abbrev pub columns_end_of : State → Option (List MatchColumn)
columns_end_of (state place columns) = columns_end place columns

-- What a step answers is this, with these columns read, unless memory ran out.
abbrev pub Steps : Result Place Stop → List MatchColumn → Outcome State → Type 0
Steps (Ok place) columns outcome = outcome ≡ goes (state place columns)
Steps (Err stop.Deep) columns outcome = ⊥
Steps (Err stop.Wrong) columns outcome = outcome ≡ wrong
Steps (Err stop.NoMemory) columns outcome = Unit {0}
