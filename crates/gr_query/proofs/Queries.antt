-- Queries, and what begins one, are what the reader goes through.
use Rattle.std.proofs.Common.{◌≡◌, ℕ, suc, List, [], ◌∷◌, ◌++◌, append-nil, Some, refl, sym, ◌∙◌, ap, subst}
use Rattle.gr_ast.specs.declared.ast.Ast.{Ast}
use Rattle.gr_ast.specs.declared.ast.Ast.TheVariants as ast
use Rattle.gr_ast.specs.declared.ast.Joined.{Joined}
use Rattle.gr_ast.specs.declared.operators.Seek.TheVariants as seek
use Rattle.gr_query.specs.declared.frame.Before.{Before}
use Rattle.gr_query.specs.declared.frame.Units.{Units}
use Rattle.gr_query.specs.declared.token.Token.TheVariants.{Close, Word}
use Rattle.gr_query.specs.Grammar.{ParsesQuery, a_query, ParsesFirst, no_sign, ParsesFollow, no_follow, a_unit, ParsesUnit, a_word, Sentence}
use Rattle.gr_query.specs.Inside.Machine.{Phase, Begin, Want, Have, State, state, placed, step, step_of, begin, finished, finish_of}
use Rattle.gr_query.specs.Units.{alone, with_links, tree_of}
use Rattle.gr_query.specs.Token.{Lexeme}
use Rattle.gr_query.proofs.Steps.{Ends, at_end, at_close, Completes, Starts, Goes, GoesOn, with_links-nil, step_to, step_from}
use Rattle.gr_text.proofs.Grammar.{IsGoing, end_of}
use Rattle.gr_text.specs.Inside.Reading.{Outcome, goes, deep, wrong, run}
use Rattle.gr_text.specs.Sentences.{Begins}
use Rattle.gr_text.proofs.Cases.{some_is, none_is}

-- what finishes the query with these tokens first finishes it behind them
run_to : (w : Ast) (ts more : List Lexeme) (o : Outcome State) → GoesOn w o (ts ++ more) → GoesOn w (run step_of o ts) more
run_to w [] more o m = m
run_to w (t ∷ ts) more (goes (state phase frames levels)) m = run_to w ts more (step phase frames levels t) (step_to w phase frames levels t (ts ++ more) m)
run_to w (t ∷ ts) more deep m = m
run_to w (t ∷ ts) more wrong m = m

run_from : (w : Ast) (ts more : List Lexeme) (o : Outcome State) → GoesOn w (run step_of o ts) more → GoesOn w o (ts ++ more)
run_from w [] more o m = m
run_from w (t ∷ ts) more (goes (state phase frames levels)) m = step_from w phase frames levels t (ts ++ more) (run_from w ts more (step phase frames levels t) m)
run_from w (t ∷ ts) more deep m = m
run_from w (t ∷ ts) more wrong m = m

no_unit : {levels : ℕ} {tree : Ast} {at : ℕ} {rest : List Lexeme} → ParsesUnit levels [] tree at rest → ⊥
no_unit u = elim u [ ]

no_first : {levels : ℕ} {first : Units} {rest : List Lexeme} → ParsesFirst levels [] first rest → ⊥
no_first (no_sign u) = no_unit u

units_to : {w : Ast} {frames : List Before} {levels : ℕ} (units : Units) {links : List Joined} {rest : List Lexeme} → ParsesFollow levels [] links rest → Ends w frames levels (with_links units links) rest → finished (Have units) frames ≡ Some w
units_to units no_follow (at_end e) = ap Some (sym (ap tree_of (with_links-nil units)) ∙ e)
units_to units (a_unit u l) ends = absurd (no_unit u)

ended_to : (w : Ast) (phase : Phase) (frames : List Before) (levels : ℕ) → Goes w phase frames levels [] → finished phase frames ≡ Some w
ended_to w Begin frames levels m = absurd (no_first m.reads)
ended_to w (Want before) frames levels m = absurd (no_unit m.reads)
ended_to w (Have units) frames levels m = units_to units m.follows m.ends

ended_from : (w : Ast) (phase : Phase) (frames : List Before) (levels : ℕ) → finished phase frames ≡ Some w → Goes w phase frames levels []
ended_from w Begin frames levels e = absurd (none_is e)
ended_from w (Want before) frames levels e = absurd (none_is e)
ended_from w (Have units) [] levels e = record { links = []; rest = []; follows = no_follow; ends = at_end (ap tree_of (with_links-nil units) ∙ some_is e) }
ended_from w (Have units) (before ∷ frames) levels e = absurd (none_is e)

end_to : (w : Ast) (o : Outcome State) → GoesOn w o [] → end_of finish_of o ≡ Some w
end_to w (goes (state phase frames levels)) m = ended_to w phase frames levels m
end_to w deep m = absurd m
end_to w wrong m = absurd m

end_from : (w : Ast) (o : Outcome State) → end_of finish_of o ≡ Some w → GoesOn w o []
end_from w (goes (state phase frames levels)) e = ended_from w phase frames levels e
end_from w deep e = none_is e
end_from w wrong e = none_is e

sentence_goes : (levels : ℕ) (ts : List Lexeme) (w : Ast) → Sentence levels ts w → Starts w [] levels ts
sentence_goes levels ts w s = go s.1
  where
    go : {w : Ast} {at : ℕ} → ParsesQuery levels ts w at [] → Starts w [] levels ts
    go (a_query f l) = record { first = _; rest = _; reads = f; completes = record { links = _; rest = _; follows = l; ends = at_end refl } }

goes_sentence : (levels : ℕ) (ts : List Lexeme) (w : Ast) → Starts w [] levels ts → Sentence levels ts w
goes_sentence levels ts w m = go m.reads (m.completes).follows (m.completes).ends
  where
    go : {first : Units} {us rest : List Lexeme} {links : List Joined} → ParsesFirst levels ts first us → ParsesFollow levels us links rest → Ends w [] levels (with_links first links) rest → Sentence levels ts w
    go {first} f l (at_end e) = (first.at, subst (λ tree. ParsesQuery levels ts tree first.at []) e (a_query f l))

-- the tokens are a query exactly where the reader ends with its tree
pub sentence_to : (levels : ℕ) (ts : List Lexeme) (w : Ast) → Sentence levels ts w → end_of finish_of (run step_of (goes (begin levels)) ts) ≡ Some w
sentence_to levels ts w s =
    end_to w (run step_of (goes (begin levels)) ts) (run_to w ts [] (goes (begin levels)) (subst (λ us. Starts w [] levels us) (sym (append-nil ts)) (sentence_goes levels ts w s)))

pub sentence_from : (levels : ℕ) (ts : List Lexeme) (w : Ast) → end_of finish_of (run step_of (goes (begin levels)) ts) ≡ Some w → Sentence levels ts w
sentence_from levels ts w e =
    goes_sentence levels ts w (subst (λ us. Starts w [] levels us) (append-nil ts) (run_from w ts [] (goes (begin levels)) (end_from w (run step_of (goes (begin levels)) ts) e)))

going : (w : Ast) (ts : List Lexeme) (o : Outcome State) → GoesOn w o ts → IsGoing o
going w ts (goes (state phase frames levels)) m = tt
going w ts deep m = m
going w ts wrong m = m

closing : Lexeme
closing = record { at = 0; token = Close }

closing_closes : closing.token ≡ Close
unfolding closing
closing_closes = refl

some_word : Lexeme
some_word = record { at = 0; token = Word seek.Match [] }

is_a_word : some_word.token ≡ Word seek.Match []
unfolding some_word
is_a_word = refl

-- closing brackets finish a units in open brackets
record Finished (frames : List Before) (levels : ℕ) (units : Units) : Type 0 where
  whole : Ast
  ts : List Lexeme
  ends : Ends whole frames levels units ts

finishing : (frames : List Before) (levels : ℕ) (units : Units) → Finished frames levels units
finishing [] levels units = record { whole = tree_of units; ts = []; ends = at_end refl }
finishing (before ∷ frames) levels units =
    let next = placed before units.at (tree_of units) in
    let f = finishing frames (suc levels) next in
    record { whole = f.whole; ts = closing ∷ f.ts; ends = at_close closing_closes no_follow (subst (λ of. Ends f.whole frames (suc levels) of f.ts) (sym (with_links-nil next)) f.ends) }

-- some tokens finish each state
record Ending (phase : Phase) (frames : List Before) (levels : ℕ) : Type 0 where
  whole : Ast
  ts : List Lexeme
  goes_on : Goes whole phase frames levels ts

having : (frames : List Before) (levels : ℕ) (units : Units) → (f : Finished frames levels units) → Completes f.whole frames levels units f.ts
having frames levels units f = record { links = []; rest = f.ts; follows = no_follow; ends = subst (λ of. Ends f.whole frames levels of f.ts) (sym (with_links-nil units)) f.ends }

ending : (phase : Phase) (frames : List Before) (levels : ℕ) → Ending phase frames levels
ending Begin frames levels =
    let units = alone some_word.at (ast.Word some_word.at seek.Match []) in
    let f = finishing frames levels units in
    record { whole = f.whole; ts = some_word ∷ f.ts; goes_on = record { first = units; rest = f.ts; reads = no_sign (a_word is_a_word); completes = having frames levels units f } }
ending (Want before) frames levels =
    let units = placed before some_word.at (ast.Word some_word.at seek.Match []) in
    let f = finishing frames levels units in
    record { whole = f.whole; ts = some_word ∷ f.ts; goes_on = record { tree = ast.Word some_word.at seek.Match []; at = some_word.at; rest = f.ts; reads = a_word is_a_word; completes = having frames levels units f } }
ending (Have units) frames levels =
    let f = finishing frames levels units in
    record { whole = f.whole; ts = f.ts; goes_on = having frames levels units f }

-- the tokens begin a query exactly where the reader goes on behind them
pub begins_to : (levels : ℕ) (ts : List Lexeme) → Begins Sentence levels ts → IsGoing (run step_of (goes (begin levels)) ts)
begins_to levels ts b = going b.1 b.0 (run step_of (goes (begin levels)) ts) (run_to b.1 ts b.0 (goes (begin levels)) (sentence_goes levels (ts ++ b.0) b.1 b.2))

pub begins_from : (levels : ℕ) (ts : List Lexeme) → IsGoing (run step_of (goes (begin levels)) ts) → Begins Sentence levels ts
begins_from levels ts g = go (run step_of (goes (begin levels)) ts) g (λ w more m. run_from w ts more (goes (begin levels)) m)
  where
    go : (o : Outcome State) → IsGoing o → ((w : Ast) (more : List Lexeme) → GoesOn w o more → Starts w [] levels (ts ++ more)) → Begins Sentence levels ts
    go (goes (state phase frames left)) g back = let e = ending phase frames left in (e.ts, e.whole, goes_sentence levels (ts ++ e.ts) e.whole (back e.whole e.ts e.goes_on))
    go deep g back = absurd g
    go wrong g back = absurd g
