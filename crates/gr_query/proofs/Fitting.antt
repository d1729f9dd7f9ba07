-- The reader fits the grammar of queries.
use Rattle.std.proofs.Common.{ℕ, zero, suc, List, [], ◌∷◌, refl}
use Rattle.std.specs.Prelude.{Result, Ok, Err, IfOk, IfErr}
use Rattle.gr_base.specs.declared.fault.FaultKind.TheVariants.{BadQuery}
use Rattle.gr_ast.specs.declared.ast.Ast.{Ast}
use Rattle.gr_ast.specs.declared.operators.Join.TheVariants as join
use Rattle.gr_query.specs.declared.frame.Before.{Before}
use Rattle.gr_query.specs.declared.frame.Before.TheVariants as before
use Rattle.gr_query.specs.declared.frame.Units.{Units}
use Rattle.gr_query.specs.declared.token.Token.{Token}
use Rattle.gr_query.specs.declared.token.Token.TheVariants.{Open, Close, Plus, Minus, Or, Word, Field}
use Rattle.gr_query.specs.Grammar.{Sentence}
use Rattle.gr_query.specs.Inside.Lexing.{IsText}
use Rattle.gr_query.specs.Inside.Machine.{Phase, Begin, Want, Have, State, state, open_on, unit_on, first_on, close_on, follow_on, step, step_of, begin, finish_of, raise}
use Rattle.gr_ast.specs.Made.{IsMade, IsOfQuery}
use Rattle.gr_query.specs.Text.{has_no_value, IsQuery, IsRefusal}
use Rattle.gr_query.specs.Token.{Lexeme}
use Rattle.gr_query.proofs.Making.{made_sentence, shaped_sentence}
use Rattle.gr_query.proofs.Queries.{begins_to, begins_from, sentence_to, sentence_from}
use Rattle.gr_text.proofs.Grammar.{Raises, Fits, gives_read, tells_refusal}
use Rattle.gr_text.specs.Cut.{Cut}
use Rattle.gr_text.specs.Inside.Reading.{Rules, rules_by, Tells}
use Rattle.gr_base.specs.declared.limits.TheConstants.{MOST_LEVELS}
use Rattle.gr_text.specs.Fault.{TextFault}

-- One more bracket to open lets each step go as before.
open_raised : (before : Before) (frames : List Before) (levels : ℕ) → Raises raise (open_on before frames levels) (open_on before frames (suc levels))
open_raised before frames zero = tt
open_raised before frames (suc levels) = refl

unit_raised : (before : Before) (frames : List Before) (levels at : ℕ) (token : Token) → Raises raise (unit_on before frames levels at token) (unit_on before frames (suc levels) at token)
unit_raised before frames levels at Open = open_raised before frames levels
unit_raised before frames levels at (Word seek text) = refl
unit_raised before frames levels at (Field path test text) = refl
unit_raised before frames levels at Close = refl
unit_raised before frames levels at Plus = refl
unit_raised before frames levels at Minus = refl
unit_raised before frames levels at Or = refl

first_raised : (frames : List Before) (levels at : ℕ) (token : Token) → Raises raise (first_on frames levels at token) (first_on frames (suc levels) at token)
first_raised frames levels at Plus = refl
first_raised frames levels at Minus = refl
first_raised frames levels at Open = unit_raised before.Nothing frames levels at Open
first_raised frames levels at Close = refl
first_raised frames levels at Or = refl
first_raised frames levels at (Word seek text) = refl
first_raised frames levels at (Field path test text) = refl

close_raised : (units : Units) (frames : List Before) (levels : ℕ) → Raises raise (close_on units frames levels) (close_on units frames (suc levels))
close_raised units [] levels = refl
close_raised units (before ∷ frames) levels = refl

follow_raised : (units : Units) (frames : List Before) (levels at : ℕ) (token : Token) → Raises raise (follow_on units frames levels at token) (follow_on units frames (suc levels) at token)
follow_raised units frames levels at Plus = refl
follow_raised units frames levels at Minus = refl
follow_raised units frames levels at Or = refl
follow_raised units frames levels at Close = close_raised units frames levels
follow_raised units frames levels at Open = unit_raised (before.Joins units join.And) frames levels at Open
follow_raised units frames levels at (Word seek text) = refl
follow_raised units frames levels at (Field path test text) = refl

step_raised_in : (phase : Phase) (frames : List Before) (levels : ℕ) (t : Lexeme) → Raises raise (step phase frames levels t) (step phase frames (suc levels) t)
step_raised_in Begin frames levels t = first_raised frames levels t.at t.token
step_raised_in (Want before) frames levels t = unit_raised before frames levels t.at t.token
step_raised_in (Have units) frames levels t = follow_raised units frames levels t.at t.token

step_raised : (s : State) (t : Lexeme) → Raises raise (step_of s t) (step_of (raise s) t)
step_raised (state phase frames levels) t = step_raised_in phase frames levels t

pub fits : Fits step_of finish_of begin raise Sentence
fits = record { begins_to = begins_to; begins_from = begins_from; sentence_to = sentence_to; sentence_from = sentence_from; begin_raised = λ levels. refl; step_raised = step_raised }

abbrev query_rules : Rules Token State Ast
query_rules = rules_by step_of finish_of has_no_value IsText BadQuery (begin MOST_LEVELS)

-- So what it tells of a text is what the grammar says of it.
pub told_query : (whole : Cut Token) (result : Result Ast TextFault) → Tells query_rules whole result → IfOk result (IsQuery whole)
told_query whole (Ok tree) g = gives_read fits has_no_value IsText BadQuery g
told_query whole (Err fault) h = tt

pub told_made : (whole : Cut Token) (result : Result Ast TextFault) → Tells query_rules whole result → IfOk result IsMade
told_made whole (Ok tree) g = made_sentence ((gives_read fits has_no_value IsText BadQuery g).sentence) g.texts
told_made whole (Err fault) h = tt

pub told_shape : (whole : Cut Token) (result : Result Ast TextFault) → Tells query_rules whole result → IfOk result IsOfQuery
told_shape whole (Ok tree) g = shaped_sentence ((gives_read fits has_no_value IsText BadQuery g).sentence) g.texts
told_shape whole (Err fault) h = tt

pub told_refusal : (whole : Cut Token) (result : Result Ast TextFault) → Tells query_rules whole result → IfErr result (IsRefusal whole)
told_refusal whole (Ok tree) g = tt
told_refusal whole (Err fault) h = tells_refusal fits has_no_value IsText BadQuery whole fault h
