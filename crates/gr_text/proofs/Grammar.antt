-- A reader that fits a grammar tells of each text what the grammar says of it.
use Rattle.std.proofs.Common.{◌≡◌, ℕ, zero, suc, ◌+◌, Bool, true, false, Option, Some, None, Err, List, [], ◌∷◌, ◌++◌, append_assoc, append-nil, add_comm, zero-add, suc-add, refl, sym, ◌∙◌, ap, subst}
use Rattle.gr_base.specs.declared.fault.FaultKind.{FaultKind}
use Rattle.gr_text.specs.Cut.{Cut, Placed}
use Rattle.gr_text.specs.Inside.Reading.{Outcome, goes, deep, wrong, run, Rules, rules_by, Gives, Halts, at_token, at_stranger, at_end, at_number, Tells}
use Rattle.gr_text.specs.Sentences.{IsSentence, Begins, IsRead, IsRefused, no_sentence, no_value, IsRefusal}
use Rattle.gr_base.specs.declared.limits.TheConstants.{MOST_LEVELS}
use Rattle.gr_text.specs.Wrong.{unexpected, deep as too_deep, strange, unfinished, wrong_kind}
use Rattle.gr_text.specs.Fault.{TextFault}
use Rattle.gr_base.specs.declared.failure.Failure.TheVariants.{Refused, NoMemory}
use Rattle.gr_text.proofs.Cases.{some_is, none_is}
use Rattle.gr_text.proofs.OneFault.{one_place, no_fault}
use Rattle.gr_text.proofs.Turning.{run-append}

-- the text may go on
abbrev pub IsGoing : {S : Type 0} → Outcome S → Type 0
IsGoing (goes state) = Unit {0}
IsGoing deep = ⊥
IsGoing wrong = ⊥

-- what is made of a text that ends with an outcome
abbrev pub end_of : {S X : Type 0} → (S → Option X) → Outcome S → Option X
end_of end (goes state) = end state
end_of end deep = None
end_of end wrong = None

-- The outcome where one level more may be opened. What opened too many goes on.
abbrev pub Raises : {S : Type 0} → (S → S) → Outcome S → Outcome S → Type 0
Raises raise (goes state) o = o ≡ goes (raise state)
Raises raise deep o = IsGoing o
Raises raise wrong o = o ≡ wrong

-- A reader fits a grammar: it goes on exactly where the tokens begin a sentence, it makes a tree exactly of a sentence of this tree, and with one level more each step goes as before.
pub record Fits {T S X : Type 0} (step : S → Placed T → Outcome S) (end : S → Option X) (begin : ℕ → S) (raise : S → S) (Sentence : ℕ → List (Placed T) → X → Type 0) : Type 0 where
  pub begins_to : (levels : ℕ) (ts : List (Placed T)) → Begins Sentence levels ts → IsGoing (run step (goes (begin levels)) ts)
  pub begins_from : (levels : ℕ) (ts : List (Placed T)) → IsGoing (run step (goes (begin levels)) ts) → Begins Sentence levels ts
  pub sentence_to : (levels : ℕ) (ts : List (Placed T)) (tree : X) → Sentence levels ts tree → end_of end (run step (goes (begin levels)) ts) ≡ Some tree
  pub sentence_from : (levels : ℕ) (ts : List (Placed T)) (tree : X) → end_of end (run step (goes (begin levels)) ts) ≡ Some tree → Sentence levels ts tree
  pub begin_raised : (levels : ℕ) → begin (suc levels) ≡ raise (begin levels)
  pub step_raised : (state : S) (t : Placed T) → Raises raise (step state t) (step (raise state) t)

module _ {T S X : Type 0} {step : S → Placed T → Outcome S} {end : S → Option X} {begin : ℕ → S} {raise : S → S} {Sentence : ℕ → List (Placed T) → X → Type 0} (fits : Fits step end begin raise Sentence) where
  abbrev from_levels : ℕ → List (Placed T) → Outcome S
  from_levels levels ts = run step (goes (begin levels)) ts

  -- the outcome of many tokens where one level more may be opened; what opened too many is left aside
  abbrev Lifts : Outcome S → Outcome S → Type 0
  Lifts (goes state) o = o ≡ goes (raise state)
  Lifts deep o = Unit {0}
  Lifts wrong o = o ≡ wrong

  lifted : (o up : Outcome S) → Raises raise o up → Lifts o up
  lifted (goes state) up r = r
  lifted deep up r = tt
  lifted wrong up r = r

  run_lifted : (ts : List (Placed T)) (o up : Outcome S) → Lifts o up → Lifts (run step o ts) (run step up ts)
  run_lifted [] o up r = r
  run_lifted (t ∷ ts) (goes state) up r =
      subst (λ other. Lifts (run step (step state t) ts) (run step other (t ∷ ts))) (sym r)
      (run_lifted ts (step state t) (step (raise state) t) (lifted (step state t) (step (raise state) t) (fits.step_raised state t)))
  run_lifted (t ∷ ts) deep up r = tt
  run_lifted (t ∷ ts) wrong up r = ap (λ other. run step other (t ∷ ts)) r

  levels_lifted : (levels : ℕ) (ts : List (Placed T)) → Lifts (from_levels levels ts) (from_levels (suc levels) ts)
  levels_lifted levels ts = run_lifted ts (goes (begin levels)) (goes (begin (suc levels))) (ap goes (fits.begin_raised levels))

  lifted_going : (o up : Outcome S) → Lifts o up → IsGoing o → IsGoing up
  lifted_going (goes state) up r g = subst IsGoing (sym r) tt
  lifted_going deep up r g = absurd g
  lifted_going wrong up r g = absurd g

  -- what begins a sentence begins one with more levels
  begins_more : (more levels : ℕ) (ts : List (Placed T)) → IsGoing (from_levels levels ts) → IsGoing (from_levels (more + levels) ts)
  begins_more zero levels ts g = subst (λ n. IsGoing (from_levels n ts)) (sym (zero-add levels)) g
  begins_more (suc more) levels ts g =
      subst (λ n. IsGoing (from_levels n ts)) (sym (suc-add more levels))
      (lifted_going (from_levels (more + levels) ts) (from_levels (suc (more + levels)) ts) (levels_lifted (more + levels) ts) (begins_more more levels ts g))

  -- what is wrong is so with more levels
  wrong_more : (more levels : ℕ) (ts : List (Placed T)) → from_levels levels ts ≡ wrong → from_levels (more + levels) ts ≡ wrong
  wrong_more zero levels ts e = ap (λ n. from_levels n ts) (zero-add levels) ∙ e
  wrong_more (suc more) levels ts e =
      ap (λ n. from_levels n ts) (suc-add more levels)
      ∙ subst (λ o. Lifts o (from_levels (suc (more + levels)) ts)) (wrong_more more levels ts e) (levels_lifted (more + levels) ts)

  -- so it begins no sentence at all
  wrong_never : (levels : ℕ) (ts : List (Placed T)) → from_levels levels ts ≡ wrong → (other : ℕ) → Begins Sentence other ts → ⊥
  wrong_never levels ts e other b =
      subst IsGoing (wrong_more other levels ts e) (subst (λ n. IsGoing (from_levels n ts)) (add_comm levels other) (begins_more levels other ts (fits.begins_to other ts b)))

  module _ (levels : ℕ) (before : List (Placed T)) (state : S) (at : from_levels levels before ≡ goes state) where
    begun : Begins Sentence levels before
    begun = fits.begins_from levels before (subst IsGoing (sym at) tt)

    on_token : (t : Placed T) → from_levels levels (before ++ (t ∷ [])) ≡ step state t
    on_token t = run-append step before (t ∷ []) (goes (begin levels)) ∙ ap (λ o. run step o (t ∷ [])) at

    -- what opened too many levels begins a sentence with one more
    deep_begins : (t : Placed T) → step state t ≡ deep → Begins Sentence (suc levels) (before ++ (t ∷ []))
    deep_begins t e =
        let up : from_levels (suc levels) before ≡ goes (raise state) = subst (λ o. Lifts o (from_levels (suc levels) before)) at (levels_lifted levels before) in
        let going : IsGoing (step (raise state) t) = subst (λ o. Raises raise o (step (raise state) t)) e (fits.step_raised state t) in
        fits.begins_from (suc levels) (before ++ (t ∷ [])) (subst IsGoing (sym (run-append step before (t ∷ []) (goes (begin (suc levels))) ∙ ap (λ o. run step o (t ∷ [])) up)) going)

  module _ (lacks_value : T → Bool) (IsText : T → Type 0) (otherwise : FaultKind) where
    abbrev rules_of : Rules T S X
    rules_of = rules_by step end lacks_value IsText otherwise (begin MOST_LEVELS)

    -- what it makes of a text is the text's tree
    pub gives_read : {cut : Cut T} {tree : X} → Gives rules_of cut tree → IsRead Sentence lacks_value cut tree
    gives_read {cut} {tree} g = record { clean = g.clean; sentence = fits.sentence_from MOST_LEVELS cut.tokens tree (ap (end_of end) (g.is_at).is ∙ g.made); fits = g.fits }

    halts_refused : {cut : Cut T} {kind : FaultKind} {at : ℕ} → Halts rules_of cut kind at → IsRefused Sentence lacks_value otherwise cut kind at
    halts_refused (at_token before others t state true parts is_at stops place told) =
        no_sentence true (too_deep before t others (record { parts = parts; place = place; begun = begun MOST_LEVELS before state is_at.is }) (λ b. subst IsGoing (on_token MOST_LEVELS before state is_at.is t ∙ stops) (fits.begins_to MOST_LEVELS (before ++ (t ∷ [])) b)) (suc MOST_LEVELS) (deep_begins MOST_LEVELS before state is_at.is t stops) refl) told
    halts_refused (at_token before others t state false parts is_at stops place told) =
        no_sentence false (unexpected before t others (record { parts = parts; place = place; begun = begun MOST_LEVELS before state is_at.is }) (wrong_never MOST_LEVELS (before ++ (t ∷ [])) (on_token MOST_LEVELS before state is_at.is t ∙ stops)) refl) told
    halts_refused {cut} (at_stranger state is_at e told) = no_sentence false (strange (begun MOST_LEVELS cut.tokens state is_at.is) e refl) told
    halts_refused {cut} (at_end state is_at clean e place told) = no_sentence false (unfinished (begun MOST_LEVELS cut.tokens state is_at.is) clean none place refl) told
      where
        none : IsSentence Sentence MOST_LEVELS cut.tokens → ⊥
        none s = none_is (sym e ∙ sym (ap (end_of end) is_at.is) ∙ fits.sentence_to MOST_LEVELS cut.tokens s.0 s.1)
    halts_refused {cut} (at_number state tree is_at clean e first told) =
        no_value tree clean (fits.sentence_from MOST_LEVELS cut.tokens tree (ap (end_of end) is_at.is ∙ e)) first told

    -- and it refuses a text for what is wrong with it, where it is wrong
    pub tells_refusal : (cut : Cut T) (fault : TextFault) → Tells rules_of cut (Err fault) → IsRefusal Sentence lacks_value otherwise cut fault
    tells_refusal cut (Refused refusal) h = halts_refused h
    tells_refusal cut NoMemory h = tt

  -- what begins a sentence is closed under prefixes
  shorter : (levels : ℕ) (xs ys : List (Placed T)) → Begins Sentence levels (xs ++ ys) → Begins Sentence levels xs
  shorter levels xs ys b = (ys ++ b.0, b.1, subst (λ ts. Sentence levels ts b.1) (append_assoc xs ys b.0) b.2)

  begins : (levels : ℕ) (ts : List (Placed T)) (tree : X) → Sentence levels ts tree → Begins Sentence levels ts
  begins levels ts tree s = ([], tree, subst (λ us. Sentence levels us tree) (sym (append-nil ts)) s)

  -- a text has one tree at most
  pub tree_is : {lacks_value : T → Bool} {cut : Cut T} {x y : X} → IsRead Sentence lacks_value cut x → IsRead Sentence lacks_value cut y → x ≡ y
  tree_is {cut = cut} {x = x} {y = y} a b = some_is (sym (fits.sentence_to MOST_LEVELS cut.tokens x a.sentence) ∙ fits.sentence_to MOST_LEVELS cut.tokens y b.sentence)

  module _ {lacks_value : T → Bool} {otherwise : FaultKind} {cut : Cut T} where
    -- what has a tree is not refused
    pub not_both : {x : X} {kind : FaultKind} {at : ℕ} → IsRead Sentence lacks_value cut x → IsRefused Sentence lacks_value otherwise cut kind at → ⊥
    not_both {x} a (no_sentence is_deep w e) = no_fault (Begins Sentence) (IsSentence Sentence) shorter w a.clean (begins MOST_LEVELS cut.tokens x a.sentence) (x, a.sentence)
    not_both a (no_value tree clean s first e) = none_is (sym a.fits ∙ first)

    -- what is refused is so for one thing at one place
    pub fault_is : {kind other : FaultKind} {at place : ℕ} → IsRefused Sentence lacks_value otherwise cut kind at → IsRefused Sentence lacks_value otherwise cut other place → (kind ≡ other) × (at ≡ place)
    fault_is (no_sentence is_deep w e) (no_sentence is_deep' w' e') =
        let same = one_place (Begins Sentence) (IsSentence Sentence) shorter w w' in
        (e ∙ ap (wrong_kind otherwise) same.0 ∙ sym e', same.1)
    fault_is (no_sentence is_deep w e) (no_value tree clean s first e') = absurd (no_fault (Begins Sentence) (IsSentence Sentence) shorter w clean (begins MOST_LEVELS cut.tokens tree s) (tree, s))
    fault_is (no_value tree clean s first e) (no_sentence is_deep w e') = absurd (no_fault (Begins Sentence) (IsSentence Sentence) shorter w clean (begins MOST_LEVELS cut.tokens tree s) (tree, s))
    fault_is (no_value tree clean s first e) (no_value tree' clean' s' first' e') = (e ∙ sym e', some_is (sym first ∙ first'))
