-- What the next token makes of where a reader stands.
use Rattle.std.proofs.Common.{◌≡◌, ℕ, Bool, true, false, cond, Option, Some, None, Err, List, [], ◌∷◌, ◌++◌, append_assoc, append-nil, refl, sym, ◌∙◌, ap, subst}
use Rattle.gr_base.specs.declared.fault.FaultKind.TheVariants.{BadNumber}
use Rattle.gr_text.specs.Cut.{Cut, Placed}
use Rattle.gr_text.specs.Lexing.{placed, next_of, found_in, others, behind}
use Rattle.gr_text.specs.Inside.Reading.{Outcome, goes, deep, wrong, Answers, Finishes, fault_of, first_with, AreText, run, halted, Rules, IsAt, HasRead, Gives, Halts, at_token, at_stranger, at_end, at_number, Tells}
use Rattle.gr_text.specs.Sentences.{first_where}
use Rattle.gr_text.specs.Fault.{TextFault}
use Rattle.gr_text.specs.declared.lexer.Found.{Found}
use Rattle.gr_text.specs.declared.lexer.Found.TheVariants as found
use Rattle.gr_text.specs.declared.lexer.Lexeme.{Lexeme}
use Rattle.gr_text.specs.declared.stop.Stop.{Stop}
use Rattle.gr_text.specs.declared.stop.Stop.TheVariants as stop

module _ {T : Type 0} where
  -- the next token, and those behind it
  record NextToken (ts : List (Placed T)) (lexeme : Lexeme T) : Type 0 where
    token : Placed T
    later : List (Placed T)
    parts : ts ≡ token ∷ later
    same : placed lexeme ≡ token

  next_token : (ts : List (Placed T)) (stranger : Option ℕ) (lexeme : Lexeme T) → found.Lexeme lexeme ≡ next_of ts stranger → NextToken ts lexeme
  next_token [] None lexeme e = absurd (differ e)
    where
      differ : found.Lexeme lexeme ≡ found.End → ⊥
      differ h = cc
  next_token [] (Some at) lexeme e = absurd (differ e)
    where
      differ : found.Lexeme lexeme ≡ found.Stranger at → ⊥
      differ h = cc
  next_token (t ∷ later) stranger lexeme e = record { token = t; later = later; parts = refl; same = ap placed (inside e) }
    where
      inside : {a b : Lexeme T} → found.Lexeme a ≡ found.Lexeme b → a ≡ b
      inside h = cc

  abbrev strange_at : ℕ → Found T
  strange_at at = found.Stranger at

  abbrev at_its_end : Found T
  at_its_end = found.End

  next_stranger : (ts : List (Placed T)) (stranger : Option ℕ) (at : ℕ) → strange_at at ≡ next_of ts stranger → (ts ≡ []) × (stranger ≡ Some at)
  next_stranger [] None at e = absurd (differ e)
    where
      differ : strange_at at ≡ found.End → ⊥
      differ h = cc
  next_stranger [] (Some place) at e = (refl, ap Some (sym (inside e)))
    where
      inside : {a b : ℕ} → strange_at a ≡ strange_at b → a ≡ b
      inside h = cc
  next_stranger (t ∷ later) stranger at e = absurd (differ e)
    where
      differ : {lexeme : Lexeme T} → found.Stranger at ≡ found.Lexeme lexeme → ⊥
      differ h = cc

  next_end : (ts : List (Placed T)) (stranger : Option ℕ) → at_its_end ≡ next_of ts stranger → (ts ≡ []) × (stranger ≡ None)
  next_end [] None e = (refl, refl)
  next_end [] (Some place) e = absurd (differ e)
    where
      differ : at_its_end ≡ found.Stranger place → ⊥
      differ h = cc
  next_end (t ∷ later) stranger e = absurd (differ e)
    where
      differ : {lexeme : Lexeme T} → found.End ≡ found.Lexeme lexeme → ⊥
      differ h = cc

  text_push : (IsText : T → Type 0) (ts : List (Placed T)) (t : Placed T) → AreText IsText ts → IsText t.token → AreText IsText (ts ++ (t ∷ []))
  text_push IsText [] t h k = (k, tt)
  text_push IsText (u ∷ ts) t h k = (h.0, text_push IsText ts t h.1 k)

  first-push : (holds : T → Bool) (ts : List (Placed T)) (t : Placed T) → first_where holds (ts ++ (t ∷ [])) ≡ first_with (first_where holds ts) holds t
  first-push holds [] t = refl
  first-push holds (u ∷ ts) t = by (holds u.token) (first-push holds ts t)
    where
      by : (b : Bool) → first_where holds (ts ++ (t ∷ [])) ≡ first_with (first_where holds ts) holds t → cond b (Some u.at) (first_where holds (ts ++ (t ∷ []))) ≡ first_with (cond b (Some u.at) (first_where holds ts)) holds t
      by true later = refl
      by false later = later

module _ {T S : Type 0} (step : S → Placed T → Outcome S) where
  pub run-append : (xs ys : List (Placed T)) (o : Outcome S) → run step o (xs ++ ys) ≡ run step (run step o xs) ys
  run-append [] ys o = refl
  run-append (x ∷ xs) ys (goes state) = run-append xs ys (step state x)
  run-append (x ∷ xs) [] deep = refl
  run-append (x ∷ xs) (y ∷ ys) deep = refl
  run-append (x ∷ xs) [] wrong = refl
  run-append (x ∷ xs) (y ∷ ys) wrong = refl

module _ {T S X : Type 0} {rules : Rules T S X} {whole now : Cut T} {state : S} {valueless : Option ℕ} (s : HasRead rules whole now state valueless) where
  module _ {lexeme : Lexeme T} (e : found.Lexeme lexeme ≡ found_in now) where
    next : NextToken now.tokens lexeme
    next = next_token now.tokens now.stranger lexeme e

    parts_on : whole.tokens ≡ s.read ++ (next.token ∷ next.later)
    parts_on = s.parts ∙ ap (λ ts. s.read ++ ts) next.parts

    -- the text may go on
    pub turn_goes : {after : Cut T} {state' : S} {valueless' : Option ℕ} → after ≡ behind now → rules.IsText lexeme.token → rules.step state (placed lexeme) ≡ goes state' → valueless' ≡ first_with valueless rules.lacks_value (placed lexeme) → HasRead rules whole after state' valueless'
    turn_goes {after} {state'} {valueless'} behind_is text went found_valueless =
        let t = next.token in
        subst (λ a. HasRead rules whole a state' valueless') (sym behind_is) (record {
          read = s.read ++ (t ∷ []);
          parts = parts_on ∙ sym (append_assoc s.read (t ∷ []) next.later) ∙ ap (λ ts. (s.read ++ (t ∷ [])) ++ ts) (ap others (sym next.parts));
          stranger = s.stranger;
          extent = s.extent;
          is_at = record { is = run-append rules.step s.read (t ∷ []) (goes rules.start) ∙ ap (λ o. run rules.step o (t ∷ [])) (s.is_at).is ∙ ap (rules.step state) (sym next.same) ∙ went };
          texts = text_push rules.IsText s.read t s.texts (subst (λ l. rules.IsText l.token) next.same text);
          first = first-push rules.lacks_value s.read t ∙ ap (λ o. first_with o rules.lacks_value t) s.first ∙ ap (first_with valueless rules.lacks_value) (sym next.same) ∙ sym found_valueless;
        })

    halts : (is_deep : Bool) → rules.step state (placed lexeme) ≡ halted is_deep → Tells rules whole (Err (fault_of rules.otherwise (cond is_deep stop.Deep stop.Wrong) lexeme.at))
    halts true went = at_token s.read next.later next.token state true parts_on s.is_at (ap (rules.step state) (sym next.same) ∙ went) (ap (λ l. l.at) next.same) refl
    halts false went = at_token s.read next.later next.token state false parts_on s.is_at (ap (rules.step state) (sym next.same) ∙ went) (ap (λ l. l.at) next.same) refl

    -- it stops here
    pub turn_halts : {fault : TextFault} (state' : S) (stop : Stop) → Answers (Err stop) state' (rules.step state (placed lexeme)) → fault ≡ fault_of rules.otherwise stop lexeme.at → Tells rules whole (Err fault)
    turn_halts state' stop.Deep went is = subst (λ f. Tells rules whole (Err f)) (sym is) (halts true went)
    turn_halts state' stop.Wrong went is = subst (λ f. Tells rules whole (Err f)) (sym is) (halts false went)
    turn_halts state' stop.NoMemory went is = subst (λ f. Tells rules whole (Err f)) (sym is) tt

  all_read : now.tokens ≡ [] → s.read ≡ whole.tokens
  all_read e = sym (s.parts ∙ ap (λ ts. s.read ++ ts) e ∙ append-nil s.read)

  at_last : now.tokens ≡ [] → IsAt rules whole.tokens state
  at_last e = subst (λ ts. IsAt rules ts state) (all_read e) s.is_at

  -- no token begins here
  pub turn_strange : {at : ℕ} {fault : TextFault} → found.Stranger at ≡ found_in now → fault ≡ fault_of rules.otherwise stop.Wrong at → Tells rules whole (Err fault)
  turn_strange {at} e is =
      let n = next_stranger now.tokens now.stranger at e in
      subst (λ f. Tells rules whole (Err f)) (sym is) (at_stranger state (at_last n.0) (sym s.stranger ∙ n.1) refl)

  -- the text has no more tokens
  pub turn_ends : {after : Cut T} → found.End ≡ found_in now → after ≡ behind now → HasRead rules whole after state valueless × (after.tokens ≡ []) × (after.stranger ≡ None)
  turn_ends {after} e behind_is =
      let n = next_end now.tokens now.stranger e in
      let same : after ≡ now = behind_is ∙ ap (λ ts. record { tokens = ts; stranger = now.stranger; length = now.length }) (ap others n.0 ∙ sym n.0) in
      (subst (λ a. HasRead rules whole a state valueless) (sym same) s, ap (λ c. c.tokens) same ∙ n.0, ap (λ c. c.stranger) same ∙ n.1)

  module _ (ended : now.tokens ≡ []) (clean : now.stranger ≡ None) where
    -- what is made of the text
    pub end_gives : {tree : X} → rules.end state ≡ Some tree → valueless ≡ None → Gives rules whole tree
    end_gives {tree} made none = record {
      state = state;
      is_at = at_last ended;
      clean = sym s.stranger ∙ clean;
      made = made;
      fits = ap (first_where rules.lacks_value) (sym (all_read ended)) ∙ s.first ∙ none;
      texts = subst (AreText rules.IsText) (all_read ended) s.texts;
    }

    -- a token of it has no value
    pub end_valueless : {tree : X} {at : ℕ} → rules.end state ≡ Some tree → valueless ≡ Some at → Halts rules whole BadNumber at
    end_valueless {tree} made some = at_number state tree (at_last ended) (sym s.stranger ∙ clean) made (ap (first_where rules.lacks_value) (sym (all_read ended)) ∙ s.first ∙ some) refl

    -- it ends too early
    pub end_halts : {fault : TextFault} {len : ℕ} → (stop : Stop) → Finishes (Err stop) (rules.end state) → whole.length ≡ len → fault ≡ fault_of rules.otherwise stop len → Tells rules whole (Err fault)
    end_halts stop.Deep e counted is = absurd e
    end_halts stop.Wrong e counted is = subst (λ f. Tells rules whole (Err f)) (sym is) (at_end state (at_last ended) (sym s.stranger ∙ clean) e (sym counted) refl)
    end_halts stop.NoMemory e counted is = subst (λ f. Tells rules whole (Err f)) (sym is) tt

-- at the begin all of a text is left
pub start_stands : {T S X : Type 0} (rules : Rules T S X) (whole : Cut T) → HasRead rules whole whole rules.start None
start_stands rules whole = record { read = []; parts = refl; stranger = refl; extent = refl; is_at = record { is = refl }; texts = tt; first = refl }
