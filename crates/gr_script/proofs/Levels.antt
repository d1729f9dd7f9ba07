-- One more level lets each step go as before.
use Rattle.std.proofs.Common.{◌≡◌, ℕ, zero, suc, Bool, true, false, cond, nat_lt, List, [], ◌∷◌, ◌++◌, length, refl, sym, ◌∙◌, ap, subst}
use Rattle.gr_ast.specs.declared.operators.Arith.{Arith}
use Rattle.gr_ast.specs.declared.ast.Ast.{Ast}
use Rattle.gr_ast.specs.declared.operators.FieldOp.{FieldOp}
use Rattle.gr_ast.specs.declared.operators.Join.{Join}
use Rattle.gr_script.specs.declared.frame.Frame.{Frame}
use Rattle.gr_script.specs.declared.frame.Frame.TheVariants.{Joining, Testing, Combining, Signing, Grouping, Calling}
use Rattle.gr_script.specs.declared.grammar.After.{After}
use Rattle.gr_script.specs.declared.grammar.After.TheVariants as after
use Rattle.gr_script.specs.declared.grammar.ConditionLine.{ConditionLine}
use Rattle.gr_script.specs.declared.grammar.ConditionLine.TheVariants.{Any, All}
use Rattle.gr_script.specs.declared.grammar.NumberLine.{NumberLine}
use Rattle.gr_script.specs.declared.grammar.NumberLine.TheVariants.{Sum, Product}
use Rattle.gr_script.specs.declared.grammar.Start.{Start}
use Rattle.gr_script.specs.declared.grammar.Start.TheVariants as start
use Rattle.gr_script.specs.Inside.Machine.{hold, closed, released, Held, reduced, join_on, test_on, combine_on, close_on, takes_more, separate_on, follows, begun, step, pull, Phase, Want, Opening, Have, State, state, step_of}
use Rattle.gr_script.specs.Token.{Lexeme}
use Rattle.gr_script.specs.Words.{start_of, after_of, opens}
use Rattle.gr_script.specs.Trees.{takes, called}
use Rattle.gr_text.proofs.Grammar.{Raises}
use Rattle.gr_text.specs.Inside.Reading.{goes, wrong}

-- a state with one level more to open
abbrev pub raised_state : State → State
raised_state (state phase frames left) = state phase frames (suc left)

abbrev raised : Held → Held
raised held = record { tree = held.tree; frames = held.frames; left = suc held.left }

released_raised : (frame : Frame) (levels : ℕ) → released frame (suc levels) ≡ suc (released frame levels)
released_raised (Joining line first links join) levels = refl
released_raised (Testing test left) levels = refl
released_raised (Combining line first terms sign) levels = refl
released_raised (Signing sign at) levels = refl
released_raised Grouping levels = refl
released_raised (Calling call at args) levels = refl

reduced_raised : (pulled : ℕ) (x : Ast) (frames : List Frame) (levels : ℕ) → reduced pulled x frames (suc levels) ≡ raised (reduced pulled x frames levels)
reduced_raised pulled x [] levels = refl
reduced_raised pulled x (frame ∷ frames) levels =
    pick (nat_lt pulled (hold frame)) (ap (reduced pulled (closed frame x) frames) (released_raised frame levels) ∙ reduced_raised pulled (closed frame x) frames (released frame levels))
  where
    pick : (b : Bool) → reduced pulled (closed frame x) frames (released frame (suc levels)) ≡ raised (reduced pulled (closed frame x) frames (released frame levels)) → cond b (reduced pulled (closed frame x) frames (released frame (suc levels))) (record { tree = x; frames = frame ∷ frames; left = suc levels }) ≡ raised (cond b (reduced pulled (closed frame x) frames (released frame levels)) (record { tree = x; frames = frame ∷ frames; left = levels }))
    pick true deeper = deeper
    pick false deeper = refl

either_raised : (b : Bool) (phase : Phase) (frames : List Frame) (levels : ℕ) → Raises raised_state (cond b (goes (state phase frames levels)) wrong) (cond b (goes (state phase frames (suc levels))) wrong)
either_raised true phase frames levels = refl
either_raised false phase frames levels = refl

close_raised : (x : Ast) (frames : List Frame) (levels : ℕ) → Raises raised_state (close_on x frames levels) (close_on x frames (suc levels))
close_raised x (Grouping ∷ frames) levels = refl
close_raised x (Calling call at args ∷ frames) levels = either_raised (takes call (suc (length args))) (Have (called call at (args ++ (x ∷ [])))) frames (suc levels)
close_raised x frames levels = refl

separate_raised : (x : Ast) (frames : List Frame) (levels : ℕ) → Raises raised_state (separate_on x frames levels) (separate_on x frames (suc levels))
separate_raised x (Calling call at args ∷ frames) levels = either_raised (takes_more call (suc (length args))) Want (Calling call at (args ++ (x ∷ [])) ∷ frames) levels
separate_raised x frames levels = refl

join_raised : (line : ConditionLine) (join : Join) (x : Ast) (frames : List Frame) (levels : ℕ) → Raises raised_state (join_on line join x frames levels) (join_on line join x frames (suc levels))
join_raised Any join x (Joining Any first links before ∷ frames) levels = refl
join_raised All join x (Joining All first links before ∷ frames) levels = refl
join_raised line join x frames levels = refl

test_raised : (test : FieldOp) (x : Ast) (frames : List Frame) (levels : ℕ) → Raises raised_state (test_on test x frames levels) (test_on test x frames (suc levels))
test_raised test x (Testing before left ∷ frames) levels = refl
test_raised test x frames levels = refl

number_raised : (line : NumberLine) (sign : Arith) (x : Ast) (frames : List Frame) (levels : ℕ) → Raises raised_state (combine_on line sign x frames levels) (combine_on line sign x frames (suc levels))
number_raised Sum sign x (Combining Sum first terms before ∷ frames) levels = refl
number_raised Product sign x (Combining Product first terms before ∷ frames) levels = refl
number_raised line sign x frames levels = refl

placed_raised : (a : After) (held : Held) → Raises raised_state (follows a held) (follows a (raised held))
placed_raised after.Closes held = close_raised held.tree held.frames held.left
placed_raised after.Separates held = separate_raised held.tree held.frames held.left
placed_raised (after.Joins line join) held = join_raised line join held.tree held.frames held.left
placed_raised (after.Tests test) held = test_raised test held.tree held.frames held.left
placed_raised (after.Combines line sign) held = number_raised line sign held.tree held.frames held.left
placed_raised after.Nothing held = refl

begun_raised : (s : Start) (at : ℕ) (frames : List Frame) (levels : ℕ) → Raises raised_state (begun s at frames levels) (begun s at frames (suc levels))
begun_raised (start.Leaf tree) at frames levels = refl
begun_raised (start.Signed sign) at frames zero = tt
begun_raised (start.Signed sign) at frames (suc levels) = refl
begun_raised start.Grouped at frames zero = tt
begun_raised start.Grouped at frames (suc levels) = refl
begun_raised (start.Called call) at frames zero = tt
begun_raised (start.Called call) at frames (suc levels) = refl
begun_raised start.Nothing at frames levels = refl

step_raised : (phase : Phase) (frames : List Frame) (levels : ℕ) (t : Lexeme) → Raises raised_state (step phase frames levels t) (step phase frames (suc levels) t)
step_raised Want frames levels t = begun_raised (start_of t) t.at frames levels
step_raised Opening frames levels t = either_raised (opens t.token) Want frames levels
step_raised (Have x) frames levels t =
    let pulled = pull (after_of t) in
    subst (λ held. Raises raised_state (follows (after_of t) (reduced pulled x frames levels)) (follows (after_of t) held)) (sym (reduced_raised pulled x frames levels)) (placed_raised (after_of t) (reduced pulled x frames levels))

-- the same of a state
pub state_raised : (s : State) (t : Lexeme) → Raises raised_state (step_of s t) (step_of (raised_state s) t)
state_raised (state phase frames left) t = step_raised phase frames left t
