-- How a script is read from the left in one pass: by a stack of parts that are begun.
use Rattle.std.specs.Prelude.{ℕ, zero, suc, Bool, true, false, if◌then◌else◌, nat_lt, List, [], ◌∷◌, ◌++◌, length, Option, Some, None}
use Rattle.gr_ast.specs.declared.operators.Arith.{Arith}
use Rattle.gr_ast.specs.declared.ast.Ast.{Ast}
use Rattle.gr_ast.specs.declared.ast.Ast.TheVariants as ast
use Rattle.gr_ast.specs.declared.operators.FieldOp.{FieldOp}
use Rattle.gr_ast.specs.declared.operators.Join.{Join}
use Rattle.gr_ast.specs.declared.limits.TheConstants.{BETWEEN_ARGUMENTS}
use Rattle.gr_script.specs.declared.frame.Frame.{Frame}
use Rattle.gr_script.specs.declared.frame.Frame.TheVariants.{Joining, Testing, Combining, Signing, Grouping, Calling}
use Rattle.gr_script.specs.declared.grammar.After.{After}
use Rattle.gr_script.specs.declared.grammar.After.TheVariants as after
use Rattle.gr_script.specs.declared.grammar.Call.{Call}
use Rattle.gr_script.specs.declared.grammar.Call.TheVariants.{Between, InValues}
use Rattle.gr_script.specs.declared.grammar.ConditionLine.{ConditionLine}
use Rattle.gr_script.specs.declared.grammar.ConditionLine.TheVariants.{Any, All}
use Rattle.gr_script.specs.declared.grammar.NumberLine.{NumberLine}
use Rattle.gr_script.specs.declared.grammar.NumberLine.TheVariants.{Sum, Product}
use Rattle.gr_script.specs.declared.grammar.Start.{Start}
use Rattle.gr_script.specs.declared.grammar.Start.TheVariants as start
use Rattle.gr_script.specs.declared.precedence.Precedence.TheVariants as precedence
use Rattle.gr_script.specs.declared.parts.Next.{Next}
use Rattle.gr_script.specs.declared.parts.Next.TheVariants as next
use Rattle.gr_script.specs.Precedence.{rank}
use Rattle.gr_script.specs.Token.{Lexeme}
use Rattle.gr_ast.specs.Trees.{place_of, link, term}
use Rattle.gr_script.specs.Trees.{tested, signed, called, takes}
use Rattle.gr_script.specs.Words.{start_of, after_of, opens}
use Rattle.gr_text.specs.Inside.Reading.{Outcome, goes, deep, wrong}

-- what comes next: an operand, the bracket that opens a call's arguments, or what may follow this operand
pub data Phase : Type 0 where
  Want : Phase
  Opening : Phase
  Have : Ast → Phase

-- what comes next, the parts that are begun, the last one first, and how many levels may still be opened
pub data State : Type 0 where
  state : Phase → List Frame → ℕ → State

-- how tightly a line of conditions binds
abbrev pub tightness : ConditionLine → ℕ
tightness Any = rank precedence.Any
tightness All = rank precedence.All

-- how tightly a line of numbers binds
abbrev pub number_tightness : NumberLine → ℕ
number_tightness Sum = rank precedence.Sum
number_tightness Product = rank precedence.Product

-- how tightly a part that is begun binds what is read in it; brackets do not
abbrev pub hold : Frame → ℕ
hold (Joining line first links join) = tightness line
hold (Testing test left) = rank precedence.Comparison
hold (Combining line first terms arith) = number_tightness line
hold (Signing sign at) = rank precedence.Sign
hold Grouping = rank precedence.Bracket
hold (Calling call at args) = rank precedence.Bracket

-- how many levels a part that is begun opens
abbrev pub level : Frame → ℕ
level (Joining line first links join) = 0
level (Testing test left) = 0
level (Combining line first terms arith) = 0
level (Signing sign at) = 1
level Grouping = 1
level (Calling call at args) = 1

-- the last begun part
abbrev pub top : List Frame → Option Frame
top [] = None
top (frame ∷ frames) = Some frame

-- how tightly the last begun part binds
abbrev pub top_hold : List Frame → ℕ
top_hold [] = rank precedence.Bracket
top_hold (frame ∷ frames) = hold frame

-- whether the last begun part is a chain of conditions of this line
abbrev pub is_chain : ConditionLine → List Frame → Bool
is_chain Any (Joining Any first links join ∷ frames) = true
is_chain All (Joining All first links join ∷ frames) = true
is_chain line frames = false

-- whether the last begun part is a calculation of this line
abbrev pub is_calculation : NumberLine → List Frame → Bool
is_calculation Sum (Combining Sum first terms arith ∷ frames) = true
is_calculation Product (Combining Product first terms arith ∷ frames) = true
is_calculation line frames = false

-- whether the last begun part is a comparison or a search
abbrev pub is_test : List Frame → Bool
is_test (Testing test left ∷ frames) = true
is_test frames = false

-- how tightly a token binds the operand before it
abbrev pub pull : After → ℕ
pull after.Closes = rank precedence.Bracket
pull after.Separates = rank precedence.Bracket
pull (after.Joins line join) = tightness line
pull (after.Tests test) = rank precedence.Comparison
pull (after.Combines line arith) = number_tightness line
pull after.Nothing = rank precedence.Bracket

-- the tree of a part whose last operand is read
abbrev pub closed : Frame → Ast → Ast
closed (Joining line first links join) tree = ast.Chain (place_of first) first (links ++ link join tree ∷ [])
closed (Testing test left) tree = tested test left tree
closed (Combining line first terms arith) tree = ast.Calc (place_of first) first (terms ++ term arith tree ∷ [])
closed (Signing sign at) tree = signed sign at tree
closed Grouping tree = tree
closed (Calling call at args) tree = tree

-- the levels that are left when a part is closed
abbrev pub released : Frame → ℕ → ℕ
released (Joining line first links join) left = left
released (Testing test left_side) left = left
released (Combining line first terms arith) left = left
released (Signing sign at) left = suc left
released Grouping left = suc left
released (Calling call at args) left = suc left

-- an operand, the parts round it that are begun, the last one first, and how many levels may still be opened
pub record Held : Type 0 where
  pub tree : Ast
  pub frames : List Frame
  pub left : ℕ

-- closes the parts that bind the operand more tightly than what follows it
abbrev pub reduced : ℕ → Ast → List Frame → ℕ → Held
reduced pulled tree [] left = record { tree = tree; frames = []; left = left }
reduced pulled tree (frame ∷ frames) left =
    if nat_lt pulled (hold frame) then reduced pulled (closed frame tree) frames (released frame left)
    else record { tree = tree; frames = frame ∷ frames; left = left }

-- a join behind this operand
abbrev pub join_on : ConditionLine → Join → Ast → List Frame → ℕ → Outcome State
join_on Any join tree (Joining Any first links before ∷ frames) left = goes (state Want (Joining Any first (links ++ link before tree ∷ []) join ∷ frames) left)
join_on All join tree (Joining All first links before ∷ frames) left = goes (state Want (Joining All first (links ++ link before tree ∷ []) join ∷ frames) left)
join_on line join tree frames left = goes (state Want (Joining line tree [] join ∷ frames) left)

-- a chain of conditions
abbrev pub IsChain : Frame → Type 0
IsChain (Joining line first links join) = Unit {0}
IsChain _ = ⊥

-- a calculation
abbrev pub IsCalculation : Frame → Type 0
IsCalculation (Combining line first terms arith) = Unit {0}
IsCalculation _ = ⊥

-- a call
abbrev pub IsCall : Frame → Type 0
IsCall (Calling call at args) = Unit {0}
IsCall _ = ⊥

-- a part is begun, and of the last one this holds
abbrev pub TopIs : (Frame → Type 0) → List Frame → Type 0
TopIs P [] = ⊥
TopIs P (frame ∷ frames) = P frame

-- the begun parts, the last one changed so
abbrev pub on_top : (Frame → Frame) → List Frame → List Frame
on_top change [] = []
on_top change (frame ∷ frames) = change frame ∷ frames

-- a chain of conditions with one more, and the sign behind it
abbrev pub linked : Join → Ast → Frame → Frame
linked join tree (Joining line first links before) = Joining line first (links ++ link before tree ∷ []) join
linked join tree frame = frame

-- a calculation with one more, and the sign behind it
abbrev pub combined : Arith → Ast → Frame → Frame
combined arith tree (Combining line first terms before) = Combining line first (terms ++ term before tree ∷ []) arith
combined arith tree frame = frame

-- a call with one more argument
abbrev pub argued : Ast → Frame → Frame
argued tree (Calling call at args) = Calling call at (args ++ tree ∷ [])
argued tree frame = frame

-- a comparison or a search behind this operand
abbrev pub test_on : FieldOp → Ast → List Frame → ℕ → Outcome State
test_on test tree (Testing before left_side ∷ frames) left = wrong
test_on test tree frames left = goes (state Want (Testing test tree ∷ frames) left)

-- a sign of numbers behind this operand
abbrev pub combine_on : NumberLine → Arith → Ast → List Frame → ℕ → Outcome State
combine_on Sum arith tree (Combining Sum first terms before ∷ frames) left = goes (state Want (Combining Sum first (terms ++ term before tree ∷ []) arith ∷ frames) left)
combine_on Product arith tree (Combining Product first terms before ∷ frames) left = goes (state Want (Combining Product first (terms ++ term before tree ∷ []) arith ∷ frames) left)
combine_on line arith tree frames left = goes (state Want (Combining line tree [] arith ∷ frames) left)

-- a closing bracket behind this operand
abbrev pub close_on : Ast → List Frame → ℕ → Outcome State
close_on tree (Grouping ∷ frames) left = goes (state (Have tree) frames (suc left))
close_on tree (Calling call at args ∷ frames) left =
    if takes call (suc (length args)) then goes (state (Have (called call at (args ++ tree ∷ []))) frames (suc left)) else wrong
close_on tree frames left = wrong

-- whether a call takes another argument after so many
abbrev pub takes_more : Call → ℕ → Bool
takes_more Between count = nat_lt count BETWEEN_ARGUMENTS
takes_more InValues count = true

-- whether the last begun part is a call that takes more than one argument more
abbrev pub may_separate : List Frame → Bool
may_separate (Calling call at args ∷ frames) = takes_more call (suc (length args))
may_separate frames = false

-- a comma behind this operand
abbrev pub separate_on : Ast → List Frame → ℕ → Outcome State
separate_on tree (Calling call at args ∷ frames) left =
    if takes_more call (suc (length args)) then goes (state Want (Calling call at (args ++ tree ∷ []) ∷ frames) left) else wrong
separate_on tree frames left = wrong

-- what follows an operand whose tighter parts are closed
abbrev pub follows : After → Held → Outcome State
follows after.Closes held = close_on held.tree held.frames held.left
follows after.Separates held = separate_on held.tree held.frames held.left
follows (after.Joins line join) held = join_on line join held.tree held.frames held.left
follows (after.Tests test) held = test_on test held.tree held.frames held.left
follows (after.Combines line arith) held = combine_on line arith held.tree held.frames held.left
follows after.Nothing held = wrong

-- what an operand begins with, at this place
abbrev pub begun : Start → ℕ → List Frame → ℕ → Outcome State
begun (start.Leaf tree) at frames left = goes (state (Have tree) frames left)
begun (start.Signed sign) at frames zero = deep
begun (start.Signed sign) at frames (suc left) = goes (state Want (Signing sign at ∷ frames) left)
begun start.Grouped at frames zero = deep
begun start.Grouped at frames (suc left) = goes (state Want (Grouping ∷ frames) left)
begun (start.Called call) at frames zero = deep
begun (start.Called call) at frames (suc left) = goes (state Opening (Calling call at [] ∷ frames) left)
begun start.Nothing at frames left = wrong

-- the next token
abbrev pub step : Phase → List Frame → ℕ → Lexeme → Outcome State
step Want frames left t = begun (start_of t) t.at frames left
step Opening frames left t = if opens t.token then goes (state Want frames left) else wrong
step (Have tree) frames left t = follows (after_of t) (reduced (pull (after_of t)) tree frames left)

-- the same of a state
abbrev pub step_of : State → Lexeme → Outcome State
step_of (state phase frames left) t = step phase frames left t

-- before the first token, with so many levels to open
abbrev pub begin : ℕ → State
begin levels = state Want [] levels

-- the tree, where no part but the script itself is still open
abbrev pub whole : Ast → List Frame → Option Ast
whole tree [] = Some tree
whole tree (frame ∷ frames) = None

-- the same of an operand whose tighter parts are closed
abbrev pub whole_of : Held → Option Ast
whole_of held = whole held.tree held.frames

-- the tree of a script that ends here
abbrev pub finished : Phase → List Frame → ℕ → Option Ast
finished Want frames left = None
finished Opening frames left = None
finished (Have tree) frames left = whole_of (reduced (rank precedence.Bracket) tree frames left)

-- the tree of a script that ends in this state
abbrev pub finished_of : State → Option Ast
finished_of (state phase frames left) = finished phase frames left

-- what the code says comes next, with the operand that was read last
abbrev pub phase_of : Next → Ast → Phase
phase_of next.Want tree = Want
phase_of next.Opening tree = Opening
phase_of next.Have tree = Have tree
