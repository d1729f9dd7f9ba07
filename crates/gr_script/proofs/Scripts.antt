-- Scripts, and what begins one, are what the reader goes through.
use Rattle.std.proofs.Common.{◌≡◌, ℕ, List, [], ◌∷◌, ◌++◌, append-nil, Some, refl, sym, ap, subst, arith}
use Rattle.gr_ast.specs.declared.ast.Ast.{Ast}
use Rattle.gr_script.specs.declared.frame.Frame.{Frame}
use Rattle.gr_script.specs.Grammar.{Part, operand, script, Parses, Arguments, no_argument, an_argument, Sentence}
use Rattle.gr_script.specs.Inside.Machine.{begin, reduced, step, whole, finished, Phase, Want, Opening, Have, State, state, step_of, finished_of}
use Rattle.gr_script.specs.Token.{Lexeme}
use Rattle.gr_text.proofs.Cases.{some_is, none_is, empty_is}
use Rattle.gr_script.proofs.Climb.{tightness_above, Climbs, still, split, merge}
use Rattle.gr_script.proofs.Closing.{IsStack, Rests, reducing, reduces_to, reduces_from}
use Rattle.gr_script.proofs.Going.{ending, Stacked, step_stacked, run_stacked}
use Rattle.gr_script.proofs.Begun.{Completes, at_bottom, in_chain, in_test, in_calculation, in_sign, in_group, in_call, Wants}
use Rattle.gr_script.proofs.Steps.{Goes, GoesOn, step_to, step_from, loose_line, rank_pos}
use Rattle.gr_script.proofs.Taken.{free}
use Rattle.gr_text.specs.Inside.Reading.{Outcome, goes, deep, wrong, run}
use Rattle.gr_text.specs.Sentences.{Begins}
use Rattle.gr_text.proofs.Grammar.{IsGoing, end_of}

-- what finishes the script with these tokens first finishes it behind them
pub run_to : (w : Ast) (ts more : List Lexeme) (o : Outcome State) → GoesOn w o (ts ++ more) → GoesOn w (run step_of o ts) more
run_to w [] more o m = m
run_to w (t ∷ ts) more (goes (state phase frames levels)) m = run_to w ts more (step phase frames levels t) (step_to w phase frames levels t (ts ++ more) m)
run_to w (t ∷ ts) more deep m = m
run_to w (t ∷ ts) more wrong m = m

pub run_from : (w : Ast) (ts more : List Lexeme) (o : Outcome State) → Stacked o → GoesOn w (run step_of o ts) more → GoesOn w o (ts ++ more)
run_from w [] more o s m = m
run_from w (t ∷ ts) more (goes (state phase frames levels)) s m =
    step_from w phase frames levels t (ts ++ more) s (run_from w ts more (step phase frames levels t) (step_stacked phase frames levels t s) m)
run_from w (t ∷ ts) more deep s m = m
run_from w (t ∷ ts) more wrong s m = m

no_operand : {levels : ℕ} {x : Ast} {us : List Lexeme} → Parses operand levels [] x us → ⊥
no_operand r = elim r [ ]

bottom_to : {w : Ast} {p : Part} {frames : List Frame} {levels : ℕ} {x : Ast} → Completes w p frames levels x [] → Rests 0 frames → whole x frames ≡ Some w
bottom_to {p = p} (at_bottom c) r = ap Some (sym (still c (λ h. absurd (omega arith))).0)
bottom_to (in_chain {line = line} c l m) r = absurd (omega (arith, loose_line line))
bottom_to (in_test c m) r = absurd (omega arith)
bottom_to (in_calculation {line = line} c l m) r = absurd (omega (arith, tightness_above line))
bottom_to (in_sign c m) r = absurd (omega arith)
bottom_to (in_group c k m) r = absurd (empty_is (sym (still c (λ h. absurd (omega arith))).1))
bottom_to (in_call c a k m) r = absurd (ended a (still c (λ h. absurd (omega arith))).1)
  where
    ended : {levels : ℕ} {us rest : List Lexeme} {more : List Ast} → Arguments levels us more rest → us ≡ [] → ⊥
    ended (no_argument h) same = empty_is (sym same)
    ended (an_argument h o a) same = empty_is (sym same)

-- a script that nothing follows has this tree, where it is finished
pub ended_to : (w : Ast) (phase : Phase) (frames : List Frame) (levels : ℕ) → Goes w phase frames levels [] → finished phase frames levels ≡ Some w
ended_to w Want frames levels m = absurd (no_operand m.reads)
ended_to w Opening frames levels m = absurd m
ended_to w (Have x) frames levels m =
    let r = reducing 0 operand x frames levels in
    bottom_to (reduces_to r.steps refl m) r.rests

bottom_from : (w : Ast) (p : Part) (frames : List Frame) (levels : ℕ) (x : Ast) → whole x frames ≡ Some w → Completes w p frames levels x []
bottom_from w p [] levels x e = at_bottom (subst (λ tree. Climbs p levels x [] script tree []) (some_is e) (free levels x [] p script (rank_pos p)))
bottom_from w p (frame ∷ frames) levels x e = absurd (none_is e)

pub ended_from : (w : Ast) (phase : Phase) (frames : List Frame) (levels : ℕ) → IsStack operand frames → finished phase frames levels ≡ Some w → Goes w phase frames levels []
ended_from w Want frames levels s e = absurd (none_is e)
ended_from w Opening frames levels s e = none_is e
ended_from w (Have x) frames levels s e =
    let r = reducing 0 operand x frames levels in
    let h = reduced 0 x frames levels in
    reduces_from r.steps refl s (bottom_from w r.part h.frames h.left h.tree e)

end_to : (w : Ast) (o : Outcome State) → GoesOn w o [] → end_of finished_of o ≡ Some w
end_to w (goes (state phase frames levels)) m = ended_to w phase frames levels m
end_to w deep m = absurd m
end_to w wrong m = absurd m

end_from : (w : Ast) (o : Outcome State) → Stacked o → end_of finished_of o ≡ Some w → GoesOn w o []
end_from w (goes (state phase frames levels)) s e = ended_from w phase frames levels s e
end_from w deep s e = none_is e
end_from w wrong s e = none_is e

sentence_goes : (levels : ℕ) (ts : List Lexeme) (w : Ast) → Sentence levels ts w → Wants w [] levels ts
sentence_goes levels ts w r = let o = split r in record { tree = o.0; rest = o.1; reads = o.2; completes = at_bottom o.3 }

goes_sentence : (levels : ℕ) (ts : List Lexeme) (w : Ast) → Wants w [] levels ts → Sentence levels ts w
goes_sentence levels ts w m = go m.reads m.completes
  where
    go : {x : Ast} {us : List Lexeme} → Parses operand levels ts x us → Completes w operand [] levels x us → Sentence levels ts w
    go r (at_bottom c) = merge r c

-- the tokens are a script exactly where the reader ends with its tree
pub sentence_to : (levels : ℕ) (ts : List Lexeme) (w : Ast) → Sentence levels ts w → end_of finished_of (run step_of (goes (begin levels)) ts) ≡ Some w
sentence_to levels ts w r =
    end_to w (run step_of (goes (begin levels)) ts) (run_to w ts [] (goes (begin levels)) (subst (λ us. Wants w [] levels us) (sym (append-nil ts)) (sentence_goes levels ts w r)))

pub sentence_from : (levels : ℕ) (ts : List Lexeme) (w : Ast) → end_of finished_of (run step_of (goes (begin levels)) ts) ≡ Some w → Sentence levels ts w
sentence_from levels ts w e =
    goes_sentence levels ts w (subst (λ us. Wants w [] levels us) (append-nil ts) (run_from w ts [] (goes (begin levels)) tt (end_from w (run step_of (goes (begin levels)) ts) (run_stacked ts (goes (begin levels)) tt) e)))

going : (w : Ast) (ts : List Lexeme) (o : Outcome State) → GoesOn w o ts → IsGoing o
going w ts (goes (state phase frames levels)) m = tt
going w ts deep m = m
going w ts wrong m = m

-- the tokens begin a script exactly where the reader goes (state on behind them)
pub begins_to : (levels : ℕ) (ts : List Lexeme) → Begins Sentence levels ts → IsGoing (run step_of (goes (begin levels)) ts)
begins_to levels ts b = going b.1 b.0 (run step_of (goes (begin levels)) ts) (run_to b.1 ts b.0 (goes (begin levels)) (sentence_goes levels (ts ++ b.0) b.1 b.2))

pub begins_from : (levels : ℕ) (ts : List Lexeme) → IsGoing (run step_of (goes (begin levels)) ts) → Begins Sentence levels ts
begins_from levels ts g = go (run step_of (goes (begin levels)) ts) (run_stacked ts (goes (begin levels)) tt) g (λ w more m. run_from w ts more (goes (begin levels)) tt m)
  where
    go : (o : Outcome State) → Stacked o → IsGoing o → ((w : Ast) (more : List Lexeme) → GoesOn w o more → Wants w [] levels (ts ++ more)) → Begins Sentence levels ts
    go (goes (state phase frames left)) s g back = let e = ending phase frames left s in (e.ts, e.whole, goes_sentence levels (ts ++ e.ts) e.whole (back e.whole e.ts e.goes_on))
    go deep s g back = absurd g
    go wrong s g back = absurd g
