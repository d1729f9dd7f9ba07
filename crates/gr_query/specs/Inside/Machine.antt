-- How a query is read from the left in one pass: by a stack of brackets that are open.
use Rattle.std.specs.Prelude.{ℕ, zero, suc, List, [], ◌∷◌, Option, Some, None}
use Rattle.gr_ast.specs.declared.ast.Ast.{Ast}
use Rattle.gr_ast.specs.declared.ast.Ast.TheVariants as ast
use Rattle.gr_ast.specs.declared.operators.Join.{Join}
use Rattle.gr_ast.specs.declared.operators.Join.TheVariants as join
use Rattle.gr_query.specs.declared.frame.Before.{Before}
use Rattle.gr_query.specs.declared.frame.Before.TheVariants as before
use Rattle.gr_query.specs.declared.frame.Next.{Next}
use Rattle.gr_query.specs.declared.frame.Next.TheVariants as next
use Rattle.gr_query.specs.declared.frame.Units.{Units}
use Rattle.gr_query.specs.declared.token.Token.{Token}
use Rattle.gr_query.specs.declared.token.Token.TheVariants.{Open, Close, Plus, Minus, Or, Word, Field}
use Rattle.gr_ast.specs.Trees.{link}
use Rattle.gr_query.specs.Units.{alone, with_links, tree_of}
use Rattle.gr_query.specs.Token.{Lexeme}
use Rattle.gr_text.specs.Inside.Reading.{Outcome, goes, deep, wrong}

-- what comes next: a sign or a unit, with which a query begins; a unit, behind this; or what may follow these units
pub data Phase : Type 0 where
  Begin : Phase
  Want : Before → Phase
  Have : Units → Phase

-- what comes next, the brackets that are open with what stands before each, and how many more may be opened
pub data State : Type 0 where
  state : Phase → List Before → ℕ → State

-- what comes next, where this is read of the last bracket
abbrev pub phase_of : Next → Units → Phase
phase_of next.Begin units = Begin
phase_of (next.Plus at) units = Want (before.Plus at)
phase_of (next.Joins join) units = Want (before.Joins units join)
phase_of next.Have units = Have units

-- a unit of this tree, whose first token that is no opening bracket is at this place, behind what stands before it
abbrev pub placed : Before → ℕ → Ast → Units
placed before.Nothing at tree = alone at tree
placed (before.Plus sign) at tree = alone sign tree
placed (before.Joins of join) at tree = with_links of (link join tree ∷ [])

-- an opening bracket
abbrev pub open_on : Before → List Before → ℕ → Outcome State
open_on before frames zero = deep
open_on before frames (suc left) = goes (state Begin (before ∷ frames) left)

-- a unit begins
abbrev pub unit_on : Before → List Before → ℕ → ℕ → Token → Outcome State
unit_on before frames left at Open = open_on before frames left
unit_on before frames left at (Word seek text) = goes (state (Have (placed before at (ast.Word at seek text))) frames left)
unit_on before frames left at (Field path test text) = goes (state (Have (placed before at (ast.FieldTest at path test text))) frames left)
unit_on before frames left at _ = wrong

-- a query begins
abbrev pub first_on : List Before → ℕ → ℕ → Token → Outcome State
first_on frames left at Plus = goes (state (Want (before.Plus at)) frames left)
first_on frames left at Minus = goes (state (Want (before.Joins (alone at (ast.All at)) join.Without)) frames left)
first_on frames left at token = unit_on before.Nothing frames left at token

-- a closing bracket behind these units
abbrev pub close_on : Units → List Before → ℕ → Outcome State
close_on units [] left = wrong
close_on units (before ∷ frames) left = goes (state (Have (placed before units.at (tree_of units))) frames (suc left))

-- a token behind these units
abbrev pub follow_on : Units → List Before → ℕ → ℕ → Token → Outcome State
follow_on units frames left at Plus = goes (state (Want (before.Joins units join.And)) frames left)
follow_on units frames left at Minus = goes (state (Want (before.Joins units join.Without)) frames left)
follow_on units frames left at Or = goes (state (Want (before.Joins units join.Or)) frames left)
follow_on units frames left at Close = close_on units frames left
follow_on units frames left at token = unit_on (before.Joins units join.And) frames left at token

-- the next token
abbrev pub step : Phase → List Before → ℕ → Lexeme → Outcome State
step Begin frames left t = first_on frames left t.at t.token
step (Want before) frames left t = unit_on before frames left t.at t.token
step (Have units) frames left t = follow_on units frames left t.at t.token

-- the next token, wherever the reader stands
abbrev pub step_of : State → Lexeme → Outcome State
step_of (state phase frames left) t = step phase frames left t

-- what stands before a unit that comes next
abbrev pub before_of : Phase → Before
before_of Begin = before.Nothing
before_of (Want before) = before
before_of (Have units) = before.Joins units join.And

-- a unit alone is read, where the first token that is no opening bracket is at this place
abbrev pub with_first : State → ℕ → Ast → State
with_first (state phase frames left) at tree = state (Have (alone at tree)) frames left

-- a unit of this tree is read
abbrev pub with_unit : State → ℕ → Ast → State
with_unit (state phase frames left) at tree = state (Have (placed (before_of phase) at tree)) frames left

-- what joins the next unit so to those before it
abbrev pub joined : State → Join → Outcome State
joined (state (Have units) frames left) join = goes (state (Want (before.Joins units join)) frames left)
joined _ join = wrong

-- before the first token, with so many brackets to open
abbrev pub begin : ℕ → State
begin levels = state Begin [] levels

-- the tree of a query that ends here
abbrev pub finished : Phase → List Before → Option Ast
finished (Have units) [] = Some (tree_of units)
finished _ _ = None

-- the same, wherever the reader stands
abbrev pub finish_of : State → Option Ast
finish_of (state phase frames left) = finished phase frames

-- one bracket more may be opened
abbrev pub raise : State → State
raise (state phase frames left) = state phase frames (suc left)
