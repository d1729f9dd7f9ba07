-- Where a text is wrong that is no sentence of its grammar.
use Rattle.std.specs.Prelude.{◌≡◌, ℕ, Bool, true, false, Some, None, List, [], ◌∷◌, ◌++◌}
use Rattle.gr_base.specs.declared.fault.FaultKind.{FaultKind}
use Rattle.gr_base.specs.declared.fault.FaultKind.TheVariants.{TooDeep}
use Rattle.gr_base.specs.declared.limits.TheConstants.{MOST_LEVELS}
use Rattle.gr_text.specs.Cut.{Placed, Cut}

-- Given which tokens begin a sentence with at most so many levels, and which are one.
module _ {T : Type 0} (Begins IsSentence : ℕ → List (Placed T) → Type 0) where
  -- at this place stands a token, and the tokens before it begin a sentence
  pub record Follows (cut : Cut T) (at : ℕ) (before : List (Placed T)) (token : Placed T) (others : List (Placed T)) : Type 0 where
    pub parts : cut.tokens ≡ before ++ token ∷ others
    pub place : at ≡ token.at
    pub begun : Begins MOST_LEVELS before

  -- The text is wrong first at this place: for a token that no sentence has there, for one that only sentences of more levels have there, for a character that begins no token, or for its end.
  pub data IsWrong (cut : Cut T) (is_deep : Bool) (at : ℕ) : Type 0 where
    unexpected : (before : List (Placed T)) (token : Placed T) (others : List (Placed T)) → Follows cut at before token others → ((levels : ℕ) → ¬ (Begins levels (before ++ token ∷ []))) → is_deep ≡ false → IsWrong cut is_deep at
    deep : (before : List (Placed T)) (token : Placed T) (others : List (Placed T)) → Follows cut at before token others → ¬ (Begins MOST_LEVELS (before ++ token ∷ [])) → (levels : ℕ) → Begins levels (before ++ token ∷ []) → is_deep ≡ true → IsWrong cut is_deep at
    strange : Begins MOST_LEVELS cut.tokens → cut.stranger ≡ Some at → is_deep ≡ false → IsWrong cut is_deep at
    unfinished : Begins MOST_LEVELS cut.tokens → cut.stranger ≡ None → ¬ (IsSentence MOST_LEVELS cut.tokens) → at ≡ cut.length → is_deep ≡ false → IsWrong cut is_deep at

-- what such a text is refused for
abbrev pub wrong_kind : FaultKind → Bool → FaultKind
wrong_kind otherwise true = TooDeep
wrong_kind otherwise false = otherwise
