-- How a text is read token by token, by any reader.
use Rattle.std.specs.Prelude.{◌≡◌, ◌<◌, ℕ, Bool, true, false, if◌then◌else◌, Option, Some, None, Result, Ok, Err, List, [], ◌∷◌, ◌++◌, length}
use Rattle.gr_base.specs.declared.fault.FaultKind.{FaultKind}
use Rattle.gr_base.specs.declared.fault.FaultKind.TheVariants.{BadNumber, TooDeep}
use Rattle.gr_text.specs.Cut.{Cut, Placed}
use Rattle.gr_text.specs.Sentences.{first_where}
use Rattle.gr_text.specs.Wrong.{wrong_kind}
use Rattle.gr_text.specs.Fault.{TextFault, refused_for}
use Rattle.gr_base.specs.declared.failure.Failure.TheVariants.{Refused, NoMemory}
use Rattle.gr_text.specs.declared.reader.Progress.{Progress}
use Rattle.gr_text.specs.declared.reader.Progress.TheVariants as progress
use Rattle.gr_text.specs.declared.stop.Stop.{Stop}
use Rattle.gr_text.specs.declared.stop.Stop.TheVariants as stop

-- what comes of a token: the text may go on from here, too many levels are open, or no text goes on so
pub data Outcome (S : Type 0) : Type 0 where
  goes : S → Outcome S
  deep : Outcome S
  wrong : Outcome S

-- what a stop at this place is as a fault, in a text that is otherwise refused for this
abbrev pub fault_of : FaultKind → Stop → ℕ → TextFault
fault_of otherwise stop.Deep at = refused_for TooDeep at
fault_of otherwise stop.Wrong at = refused_for otherwise at
fault_of otherwise stop.NoMemory at = NoMemory

-- What a step answers is this outcome, and the reader stands where the text may go on, unless memory ran out.
abbrev pub Answers : {S : Type 0} → Result (Unit {0}) Stop → S → Outcome S → Type 0
Answers (Ok done) state outcome = outcome ≡ goes state
Answers (Err stop.Deep) state outcome = outcome ≡ deep
Answers (Err stop.Wrong) state outcome = outcome ≡ wrong
Answers (Err stop.NoMemory) state outcome = Unit {0}

-- what the end answers is this tree, or that there is none, unless memory ran out
abbrev pub Finishes : {X : Type 0} → Result X Stop → Option X → Type 0
Finishes (Ok tree) end = end ≡ Some tree
Finishes (Err stop.Deep) end = ⊥
Finishes (Err stop.Wrong) end = end ≡ None
Finishes (Err stop.NoMemory) end = Unit {0}

-- the first place, and where there is none, that of this token if this holds of it
abbrev pub first_with : {T : Type 0} → Option ℕ → (T → Bool) → Placed T → Option ℕ
first_with (Some place) holds t = Some place
first_with None holds t = if holds t.token then Some t.at else None

-- the tokens' texts are UTF-8
abbrev pub AreText : {T : Type 0} → (T → Type 0) → List (Placed T) → Type 0
AreText IsText [] = Unit {0}
AreText IsText (t ∷ ts) = IsText t.token × AreText IsText ts

module _ {T S : Type 0} (step : S → Placed T → Outcome S) where
  -- tokens, from the left
  abbrev pub run : Outcome S → List (Placed T) → Outcome S
  run outcome [] = outcome
  run (goes state) (t ∷ ts) = run (step state t) ts
  run deep (t ∷ ts) = deep
  run wrong (t ∷ ts) = wrong

-- what a token stops the reader with
abbrev pub halted : {S : Type 0} → Bool → Outcome S
halted true = deep
halted false = wrong

-- A reader's rules: what comes of a token, what is made of a text that ends, which tokens have no value, which hold texts, where it begins, and what a text that it does not take is refused for.
pub record Rules (T S X : Type 0) : Type 1 where
  pub step : S → Placed T → Outcome S
  pub end : S → Option X
  pub lacks_value : T → Bool
  pub IsText : T → Type 0
  pub start : S
  pub otherwise : FaultKind

-- the rules of these parts, with where the reader begins told last
abbrev pub rules_by : {T S X : Type 0} → (S → Placed T → Outcome S) → (S → Option X) → (T → Bool) → (T → Type 0) → FaultKind → S → Rules T S X
rules_by step end lacks_value IsText otherwise start = record { step = step; end = end; lacks_value = lacks_value; IsText = IsText; start = start; otherwise = otherwise }

module _ {T S X : Type 0} (rules : Rules T S X) where
  -- behind these tokens the reader is in this state
  pub record IsAt (before : List (Placed T)) (state : S) : Type 0 where
    pub is : run rules.step (goes rules.start) before ≡ goes state

  -- Of what is cut so, this is left, and the reader is in this state behind the rest, where this is the first token without a value.
  pub record HasRead (whole now : Cut T) (state : S) (valueless : Option ℕ) : Type 0 where
    pub read : List (Placed T)
    pub parts : whole.tokens ≡ read ++ now.tokens
    pub stranger : now.stranger ≡ whole.stranger
    pub extent : now.length ≡ whole.length
    pub is_at : IsAt read state
    pub texts : AreText rules.IsText read
    pub first : first_where rules.lacks_value read ≡ valueless

  -- the text is read to its end, and this is made of it
  pub record Gives (whole : Cut T) (tree : X) : Type 0 where
    pub state : S
    pub is_at : IsAt whole.tokens state
    pub clean : whole.stranger ≡ None
    pub made : rules.end state ≡ Some tree
    pub fits : first_where rules.lacks_value whole.tokens ≡ None
    pub texts : AreText rules.IsText whole.tokens

  -- The text is refused for this at this place: the reader stops at a token, at a character that begins none, or at the end; or a token has no value.
  pub data Halts (whole : Cut T) (kind : FaultKind) (at : ℕ) : Type 0 where
    at_token : (before others : List (Placed T)) (t : Placed T) (state : S) (is_deep : Bool) → whole.tokens ≡ before ++ t ∷ others → IsAt before state → rules.step state t ≡ halted is_deep → at ≡ t.at → kind ≡ wrong_kind rules.otherwise is_deep → Halts whole kind at
    at_stranger : (state : S) → IsAt whole.tokens state → whole.stranger ≡ Some at → kind ≡ rules.otherwise → Halts whole kind at
    at_end : (state : S) → IsAt whole.tokens state → whole.stranger ≡ None → rules.end state ≡ None → at ≡ whole.length → kind ≡ rules.otherwise → Halts whole kind at
    at_number : (state : S) (tree : X) → IsAt whole.tokens state → whole.stranger ≡ None → rules.end state ≡ Some tree → first_where rules.lacks_value whole.tokens ≡ Some at → kind ≡ BadNumber → Halts whole kind at

  -- what is told of the text, of which nothing is said where memory ran out
  abbrev pub Tells : Cut T → Result X TextFault → Type 0
  Tells whole (Ok tree) = Gives whole tree
  Tells whole (Err (Refused refusal)) = Halts whole refusal.kind refusal.at
  Tells whole (Err NoMemory) = Unit {0}

  -- what comes of a turn, where the reader stands so before it
  abbrev pub Turned : Cut T → Result Progress TextFault → Cut T → S → Option ℕ → Type 0
  Turned whole (Ok progress.Goes) now state valueless = HasRead whole now state valueless
  Turned whole (Ok progress.Ends) now state valueless = HasRead whole now state valueless × (now.tokens ≡ []) × (now.stranger ≡ None)
  Turned whole (Err fault) now state valueless = Tells whole (Err fault)

-- each turn but the last takes a token away
abbrev pub Shrinks : {T : Type 0} → Result Progress TextFault → Cut T → Cut T → Type 0
Shrinks (Ok progress.Goes) before now = length now.tokens < length before.tokens
Shrinks _ before now = Unit {0}
