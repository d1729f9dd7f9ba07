-- Each state of the reader is a stack that some tokens finish.
use Rattle.std.proofs.Common.{◌≡◌, ◌≤◌, ℕ, zero, suc, ◌-◌, Bool, true, false, cond, List, [], ◌∷◌, ◌++◌, length, length-append, codes, refl, ap, arith}
use Rattle.std.proofs.lemmas.Bool.{ltb-true, eq-eqb, le-leb}
use Rattle.gr_ast.specs.declared.operators.Arith.{Arith}
use Rattle.gr_ast.specs.declared.ast.Ast.{Ast}
use Rattle.gr_ast.specs.declared.ast.Ast.TheVariants.{Truth}
use Rattle.gr_ast.specs.declared.limits.TheConstants.{BETWEEN_ARGUMENTS, LEAST_IN_VALUES}
use Rattle.gr_ast.specs.declared.operators.FieldOp.{FieldOp}
use Rattle.gr_ast.specs.declared.operators.Join.{Join}
use Rattle.gr_script.specs.declared.frame.Frame.{Frame}
use Rattle.gr_script.specs.declared.frame.Frame.TheVariants.{Joining, Testing, Combining, Signing, Grouping, Calling}
use Rattle.gr_script.specs.declared.grammar.After.{After}
use Rattle.gr_script.specs.declared.grammar.After.TheVariants as after
use Rattle.gr_script.specs.declared.grammar.Call.{Call}
use Rattle.gr_script.specs.declared.grammar.Call.TheVariants.{Between, InValues}
use Rattle.gr_script.specs.declared.grammar.ConditionLine.{ConditionLine}
use Rattle.gr_script.specs.declared.grammar.ConditionLine.TheVariants.{Any, All}
use Rattle.gr_script.specs.declared.grammar.NumberLine.{NumberLine}
use Rattle.gr_script.specs.declared.grammar.NumberLine.TheVariants.{Sum, Product}
use Rattle.gr_script.specs.declared.grammar.Start.{Start}
use Rattle.gr_script.specs.declared.grammar.Start.TheVariants as start
use Rattle.gr_script.specs.declared.token.Symbol.TheVariants as s
use Rattle.gr_script.specs.Grammar.{Part, conditions, comparison, numbers, operand, script, of_conditions, of_numbers, a_leaf, Arguments, no_argument, an_argument, no_link, no_term}
use Rattle.gr_script.specs.Inside.Machine.{tightness, number_tightness, pull, Held, reduced, join_on, test_on, combine_on, close_on, takes_more, separate_on, follows, begun, step, Phase, Want, Opening, Have, State, state, step_of}
use Rattle.gr_script.specs.Token.{Lexeme}
use Rattle.gr_script.specs.declared.token.Token.TheVariants.{Symbol as symbol, Path as path}
use Rattle.gr_ast.specs.Trees.{link, term}
use Rattle.gr_script.specs.Trees.{chain_of, calculation_of, tested, signed, called, takes}
use Rattle.gr_script.specs.Words.{start_of, after_of, opens}
use Rattle.gr_script.proofs.Climb.{rank, merge}
use Rattle.gr_script.proofs.Taken.{free}
use Rattle.gr_script.proofs.Begun.{hole, Completes, at_bottom, in_chain, in_test, in_calculation, in_sign, in_group, in_call}
use Rattle.gr_script.proofs.Closing.{HasRoom, IsStack, Rests, reducing, reduces_stack}
use Rattle.gr_script.proofs.Steps.{Goes, loose_hole, loose_test_hole, loose_number_hole, rank_pos}
use Rattle.gr_text.specs.Inside.Reading.{Outcome, goes, deep, wrong, run}

closing : Lexeme
closing = record { at = 0; token = symbol s.Close }

comma : Lexeme
comma = record { at = 0; token = symbol s.Comma }

opening : Lexeme
opening = record { at = 0; token = symbol s.Open }

truth : Lexeme
truth = record { at = 0; token = path (codes "true") }

true_leaf : start_of truth ≡ start.Leaf (Truth 0 true)
unfolding truth
true_leaf = refl

closing_closes : after_of closing ≡ after.Closes
unfolding closing
closing_closes = refl

comma_separates : after_of comma ≡ after.Separates
unfolding comma
comma_separates = refl

opening_opens : opens opening.token ≡ true
unfolding opening
opening_opens = refl

abbrev truths : ℕ → List Ast
truths zero = []
truths (suc count) = Truth 0 true ∷ truths count

length-truths : (count : ℕ) → length (truths count) ≡ count
length-truths zero = refl
length-truths (suc count) = ap suc (length-truths count)

-- so many further arguments, and the bracket that closes the call
record Filled (count levels : ℕ) (rest : List Lexeme) : Type 0 where
  ts : List Lexeme
  reads : Arguments levels ts (truths count) rest

filled : (count levels : ℕ) (rest : List Lexeme) → Filled count levels rest
filled zero levels rest = record { ts = closing ∷ rest; reads = no_argument closing_closes }
filled (suc count) levels rest =
    let f = filled count levels rest in
    record {
      ts = comma ∷ truth ∷ f.ts;
      reads = an_argument comma_separates (merge (a_leaf true_leaf) (free levels (Truth 0 true) f.ts operand script (omega arith))) f.reads;
    }

-- how many further arguments a call may be given, after so many and the one at hand
abbrev further : Call → ℕ → ℕ
further Between few = 4 - few
further InValues few = 1

enough : (call : Call) (at : ℕ) (args more : List Ast) (x : Ast) → HasRoom (Calling call at args) → length more ≡ further call (length args) → takes call (length (args ++ (x ∷ more))) ≡ true
enough Between at args more x room e = eq-eqb _ BETWEEN_ARGUMENTS (omega (arith, length-append args (x ∷ more)))
enough InValues at args more x room e = le-leb LEAST_IN_VALUES _ (omega (arith, length-append args (x ∷ more)))

pub record Finished (p : Part) (frames : List Frame) (levels : ℕ) (x : Ast) : Type 0 where
  pub whole : Ast
  pub ts : List Lexeme
  pub completes : Completes whole p frames levels x ts

-- some tokens finish a stack
pub finishing : (p : Part) (frames : List Frame) (levels : ℕ) (x : Ast) → IsStack p frames → Finished p frames levels x
finishing p [] levels x s = record { whole = x; ts = []; completes = at_bottom (free levels x [] p script (rank_pos p)) }
finishing p (Joining line first links join ∷ frames) levels x s =
    let f = finishing (conditions line) frames levels (chain_of first (links ++ (link join x ∷ []))) s.2 in
    record { whole = f.whole; ts = f.ts; completes = in_chain (free levels x f.ts p (of_conditions line) s.0) no_link f.completes }
finishing p (Testing test left ∷ frames) levels x s =
    let f = finishing comparison frames levels (tested test left x) s.2 in
    record { whole = f.whole; ts = f.ts; completes = in_test (free levels x f.ts p (numbers Sum) s.0) f.completes }
finishing p (Combining line first terms sign ∷ frames) levels x s =
    let f = finishing (numbers line) frames levels (calculation_of first (terms ++ (term sign x ∷ []))) s.2 in
    record { whole = f.whole; ts = f.ts; completes = in_calculation (free levels x f.ts p (of_numbers line) s.0) no_term f.completes }
finishing p (Signing sign at ∷ frames) levels x s =
    let f = finishing operand frames (suc levels) (signed sign at x) s.2 in
    record { whole = f.whole; ts = f.ts; completes = in_sign (free levels x f.ts p operand s.0) f.completes }
finishing p (Grouping ∷ frames) levels x s =
    let f = finishing operand frames (suc levels) x s.2 in
    record { whole = f.whole; ts = closing ∷ f.ts; completes = in_group (free levels x (closing ∷ f.ts) p script s.0) closing_closes f.completes }
finishing p (Calling call at args ∷ frames) levels x s =
    let count = further call (length args) in
    let more = truths count in
    let f = finishing operand frames (suc levels) (called call at (args ++ (x ∷ more))) s.2 in
    let a = filled count levels f.ts in
    record { whole = f.whole; ts = a.ts; completes = in_call (free levels x a.ts p script s.0) a.reads (enough call at args more x s.1 (length-truths count)) f.completes }

restacked : (p q : Part) (frames : List Frame) → IsStack p frames → rank (hole frames) ≤ rank q → IsStack q frames
restacked p q [] s h = tt
restacked p q (frame ∷ frames) s h = (h, s.1, s.2)

new_room : (call : Call) (at : ℕ) → HasRoom (Calling call at [])
new_room Between at = omega arith
new_room InValues at = tt

-- some tokens finish each state
pub record Ending (phase : Phase) (frames : List Frame) (levels : ℕ) : Type 0 where
  pub whole : Ast
  pub ts : List Lexeme
  pub goes_on : Goes whole phase frames levels ts

wanting : (frames : List Frame) (levels : ℕ) → IsStack operand frames → Ending Want frames levels
wanting frames levels s =
    let f = finishing operand frames levels (Truth 0 true) s in
    record { whole = f.whole; ts = truth ∷ f.ts; goes_on = record { tree = Truth 0 true; rest = f.ts; reads = a_leaf true_leaf; completes = f.completes } }

pub ending : (phase : Phase) (frames : List Frame) (levels : ℕ) → IsStack operand frames → Ending phase frames levels
ending Want frames levels s = wanting frames levels s
ending Opening frames levels s =
    let w = wanting frames levels s in
    record { whole = w.whole; ts = opening ∷ w.ts; goes_on = (opening_opens, w.goes_on) }
ending (Have x) frames levels s =
    let f = finishing operand frames levels x s in
    record { whole = f.whole; ts = f.ts; goes_on = f.completes }

-- a state's begun parts stand in each other as the grammar has them
abbrev pub Stacked : Outcome State → Type 0
Stacked (goes (state phase frames levels)) = IsStack operand frames
Stacked deep = Unit {0}
Stacked wrong = Unit {0}

module _ (levels : ℕ) (x : Ast) (p : Part) where
  low_line : (line : ConditionLine) → rank (of_conditions line) ≤ 6
  low_line Any = omega arith
  low_line All = omega arith

  low_number : (line : NumberLine) → rank (of_numbers line) ≤ 6
  low_number Sum = omega arith
  low_number Product = omega arith

  join_stacked : (line : ConditionLine) (join : Join) (frames : List Frame) → IsStack p frames → Rests (tightness line) frames → Stacked (join_on line join x frames levels)
  join_stacked Any join (Joining Any first links before ∷ frames) s r = (omega arith, tt, s.2)
  join_stacked All join (Joining All first links before ∷ frames) s r = (omega arith, tt, s.2)
  join_stacked line join frames s r = (low_line line, tt, restacked p (conditions line) frames s (loose_hole line frames tt r))

  test_stacked : (test : FieldOp) (frames : List Frame) → IsStack p frames → Rests 3 frames → Stacked (test_on test x frames levels)
  test_stacked test (Testing before left ∷ frames) s r = tt
  test_stacked test frames s r = (omega arith, tt, restacked p comparison frames s (loose_test_hole frames tt r))

  number_stacked : (line : NumberLine) (sign : Arith) (frames : List Frame) → IsStack p frames → Rests (number_tightness line) frames → Stacked (combine_on line sign x frames levels)
  number_stacked Sum sign (Combining Sum first terms before ∷ frames) s r = (omega arith, tt, s.2)
  number_stacked Product sign (Combining Product first terms before ∷ frames) s r = (omega arith, tt, s.2)
  number_stacked line sign frames s r = (low_number line, tt, restacked p (numbers line) frames s (loose_number_hole line frames tt r))

  close_stacked : (frames : List Frame) → IsStack p frames → Stacked (close_on x frames levels)
  close_stacked (Grouping ∷ frames) s = s.2
  close_stacked (Calling call at args ∷ frames) s = pick (takes call (suc (length args)))
    where
      pick : (b : Bool) → Stacked (cond b (goes (state (Have (called call at (args ++ (x ∷ [])))) frames (suc levels))) wrong)
      pick true = s.2
      pick false = tt
  close_stacked frames s = tt

  separate_stacked : (frames : List Frame) → IsStack p frames → Stacked (separate_on x frames levels)
  separate_stacked (Calling call at args ∷ frames) s = pick (takes_more call (suc (length args))) refl
    where
      room : (call : Call) → takes_more call (suc (length args)) ≡ true → HasRoom (Calling call at (args ++ (x ∷ [])))
      room Between e = omega (arith, length-append args (x ∷ []), ltb-true (suc (length args)) BETWEEN_ARGUMENTS e)
      room InValues e = tt

      pick : (b : Bool) → takes_more call (suc (length args)) ≡ b → Stacked (cond b (goes (state Want (Calling call at (args ++ (x ∷ [])) ∷ frames) levels)) wrong)
      pick true e = (omega arith, room call e, s.2)
      pick false e = tt
  separate_stacked frames s = tt

placed_stacked : (p : Part) (held : Held) (a : After) → IsStack p held.frames → Rests (pull a) held.frames → Stacked (follows a held)
placed_stacked p held after.Closes s r = close_stacked held.left held.tree p held.frames s
placed_stacked p held after.Separates s r = separate_stacked held.left held.tree p held.frames s
placed_stacked p held (after.Joins line join) s r = join_stacked held.left held.tree p line join held.frames s r
placed_stacked p held (after.Tests test) s r = test_stacked held.left held.tree p test held.frames s r
placed_stacked p held (after.Combines line sign) s r = number_stacked held.left held.tree p line sign held.frames s r
placed_stacked p held after.Nothing s r = tt

begun_stacked : (s : Start) (at : ℕ) (frames : List Frame) (levels : ℕ) → IsStack operand frames → Stacked (begun s at frames levels)
begun_stacked (start.Leaf tree) at frames levels s = s
begun_stacked (start.Signed sign) at frames zero s = tt
begun_stacked (start.Signed sign) at frames (suc levels) s = (omega arith, tt, s)
begun_stacked start.Grouped at frames zero s = tt
begun_stacked start.Grouped at frames (suc levels) s = (omega arith, tt, s)
begun_stacked (start.Called call) at frames zero s = tt
begun_stacked (start.Called call) at frames (suc levels) s = (omega arith, new_room call at, s)
begun_stacked start.Nothing at frames levels s = tt

pub step_stacked : (phase : Phase) (frames : List Frame) (levels : ℕ) (t : Lexeme) → IsStack operand frames → Stacked (step phase frames levels t)
step_stacked Want frames levels t s = begun_stacked (start_of t) t.at frames levels s
step_stacked Opening frames levels t s = pick (opens t.token)
  where
    pick : (b : Bool) → Stacked (cond b (goes (state Want frames levels)) wrong)
    pick true = s
    pick false = tt
step_stacked (Have x) frames levels t s =
    let r = reducing (pull (after_of t)) operand x frames levels in
    placed_stacked r.part (reduced (pull (after_of t)) x frames levels) (after_of t) (reduces_stack r.steps s) r.rests

pub run_stacked : (ts : List Lexeme) (o : Outcome State) → Stacked o → Stacked (run step_of o ts)
run_stacked [] o s = s
run_stacked (t ∷ ts) (goes (state phase frames levels)) s = run_stacked ts (step phase frames levels t) (step_stacked phase frames levels t s)
run_stacked (t ∷ ts) deep s = tt
run_stacked (t ∷ ts) wrong s = tt
