-- What the tokens of a text are by a grammar: a sentence of one tree, or a fault at one place.
use Rattle.std.specs.Prelude.{◌≡◌, ℕ, Bool, if◌then◌else◌, Option, Some, None, List, [], ◌∷◌, ◌++◌}
use Rattle.gr_base.specs.declared.fault.FaultKind.{FaultKind}
use Rattle.gr_base.specs.declared.fault.FaultKind.TheVariants.{BadNumber}
use Rattle.gr_text.specs.Cut.{Placed, Cut}
use Rattle.gr_base.specs.declared.limits.TheConstants.{MOST_LEVELS}
use Rattle.gr_text.specs.Wrong.{IsWrong, wrong_kind}
use Rattle.gr_text.specs.Fault.{TextFault}
use Rattle.gr_base.specs.declared.failure.Failure.TheVariants.{Refused, NoMemory}

-- the place of the first token of which this holds
abbrev pub first_where : {T : Type 0} → (T → Bool) → List (Placed T) → Option ℕ
first_where holds [] = None
first_where holds (t ∷ ts) = if holds t.token then Some t.at else first_where holds ts

-- Given which tokens are a sentence of which tree, with at most so many levels.
module _ {T X : Type 0} (Sentence : ℕ → List (Placed T) → X → Type 0) where
  -- the tokens are a sentence
  abbrev pub IsSentence : ℕ → List (Placed T) → Type 0
  IsSentence levels ts = (tree : X) × Sentence levels ts tree

  -- the tokens, or these and some more, are a sentence
  abbrev pub Begins : ℕ → List (Placed T) → Type 0
  Begins levels ts = (more : List (Placed T)) × (tree : X) × Sentence levels (ts ++ more) tree

  -- And given which tokens are numbers that have no value.
  module _ (lacks_value : T → Bool) where
    -- what is cut so is a sentence of this tree, in which each number has a value
    pub record IsRead (cut : Cut T) (tree : X) : Type 0 where
      pub clean : cut.stranger ≡ None
      pub sentence : Sentence MOST_LEVELS cut.tokens tree
      pub fits : first_where lacks_value cut.tokens ≡ None

    -- What is cut so is refused, for this and at this place: it is no sentence, or one in which a number has no value.
    pub data IsRefused (otherwise : FaultKind) (cut : Cut T) (kind : FaultKind) (at : ℕ) : Type 0 where
      no_sentence : (is_deep : Bool) → IsWrong Begins IsSentence cut is_deep at → kind ≡ wrong_kind otherwise is_deep → IsRefused otherwise cut kind at
      no_value : (tree : X) → cut.stranger ≡ None → Sentence MOST_LEVELS cut.tokens tree → first_where lacks_value cut.tokens ≡ Some at → kind ≡ BadNumber → IsRefused otherwise cut kind at

    -- What is cut so is refused as the fault says. Nothing is said of want of memory.
    abbrev pub IsRefusal : FaultKind → Cut T → TextFault → Type 0
    IsRefusal otherwise cut (Refused refusal) = IsRefused otherwise cut refusal.kind refusal.at
    IsRefusal otherwise cut NoMemory = Unit {0}
