-- A step of the reader of columns goes exactly where their grammar goes on.
use Rattle.std.proofs.Common.{◌≡◌, ℕ, Bool, true, false, cond, codes, List, [], ◌∷◌, ◌++◌, append_assoc, append-nil, Option, Some, None, refl, sym, ◌∙◌, ap, subst}
use Rattle.gr_ast.specs.declared.columns.MatchColumn.{MatchColumn}
use Rattle.gr_script.specs.declared.column.Place.{Place}
use Rattle.gr_script.specs.declared.column.Place.TheVariants.{Path, Behind, Weight, Weighted}
use Rattle.gr_script.specs.declared.token.Symbol.TheVariants as s
use Rattle.gr_script.specs.Columns.{column_word, weight_of, is_star, is_or, column, weighted, Columns, a_column, Weighing, no_weight, a_weight, Further, no_column, another, AreColumns}
use Rattle.gr_script.specs.Inside.ColumnSteps.{State, state, path_read, weight_read, joined, column_step, columns_step_of, columns_begin, columns_end_of}
use Rattle.gr_script.specs.declared.token.Token.{Token}
use Rattle.gr_script.specs.declared.token.Token.TheVariants.{Symbol as symbol, Digits as digits, Path as path}
use Rattle.gr_script.specs.Token.{Lexeme}
use Rattle.gr_text.proofs.Cases.{some_is, none_is, false_is}
use Rattle.gr_text.specs.Inside.Reading.{Outcome, goes, deep, wrong, run}
use Rattle.gr_text.specs.Sentences.{Begins}
use Rattle.gr_text.proofs.Grammar.{IsGoing, end_of, Raises}

-- a weight and further columns come next
abbrev Weighs : MatchColumn → List Lexeme → List MatchColumn → Type 0
Weighs first [] columns = ⊥
Weighs first (t ∷ ts) columns = (weight : ℕ) × (weight_of t.token ≡ Some weight) × Further (weighted weight first) ts columns

-- these tokens are the columns that are still to come, from here
abbrev Comes : Place → List Lexeme → List MatchColumn → Type 0
Comes Path ts columns = Columns ts columns
Comes (Behind first) ts columns = Weighing first ts columns
Comes (Weight first) ts columns = Weighs first ts columns
Comes (Weighted first) ts columns = Further first ts columns

-- with these tokens the columns are all of these
abbrev Goes : List MatchColumn → Outcome State → List Lexeme → Type 0
Goes whole (goes (state place columns)) ts = (more : List MatchColumn) × Comes place ts more × (whole ≡ columns ++ more)
Goes whole deep ts = ⊥
Goes whole wrong ts = ⊥

not_both : (t : Token) → is_star t ≡ true → is_or t ≡ true → ⊥
not_both (symbol s.Star) e f = false_is f
not_both (symbol s.Or) e f = false_is e
not_both t e f = false_is e

further_to : {first : MatchColumn} {t : Lexeme} {ts : List Lexeme} {more : List MatchColumn} → Further first (t ∷ ts) more → (whole columns : List MatchColumn) → whole ≡ columns ++ more → Goes whole (joined (is_or t.token) first columns) ts
further_to {first} {t} {ts} (another {columns = more} o c) whole columns e =
    subst (λ b. Goes whole (joined b first columns) ts) (sym o) (more, c, e ∙ sym (append_assoc columns (first ∷ []) more))

weighing_to : {first : MatchColumn} {t : Lexeme} {ts : List Lexeme} {more : List MatchColumn} → Weighing first (t ∷ ts) more → (whole columns : List MatchColumn) → whole ≡ columns ++ more → Goes whole (column_step (Behind first) columns t) ts
weighing_to {first} {t} {ts} (no_weight {columns = more} f) whole columns e = go (is_star t.token) refl
  where
    go : (b : Bool) → is_star t.token ≡ b → Goes whole (cond b (goes (state (Weight first) columns)) (joined (is_or t.token) first columns)) ts
    go true star = absurd (not_both t.token star (or_of f))
      where
        or_of : {first : MatchColumn} {more : List MatchColumn} → Further first (t ∷ ts) more → is_or t.token ≡ true
        or_of (another o c) = o
    go false star = further_to f whole columns e
weighing_to {first} {t} (a_weight {u = u} {ts = ts} {weight = weight} {columns = more} star w f) whole columns e =
    subst (λ b. Goes whole (cond b (goes (state (Weight first) columns)) (joined (is_or t.token) first columns)) (u ∷ ts)) (sym star) (more, (weight, w, f), e)

columns_to : {t : Lexeme} {ts : List Lexeme} {more : List MatchColumn} → Columns (t ∷ ts) more → (whole columns : List MatchColumn) → whole ≡ columns ++ more → Goes whole (path_read (column_word t.token) t.at columns) ts
columns_to {t} {ts} (a_column {columns = more} e w) whole columns same =
    subst (λ word. Goes whole (path_read word t.at columns) ts) (sym e) (more, w, same)

step_to : (whole : List MatchColumn) (place : Place) (columns : List MatchColumn) (t : Lexeme) (ts : List Lexeme) → Goes whole (goes (state place columns)) (t ∷ ts) → Goes whole (column_step place columns t) ts
step_to whole Path columns t ts m = columns_to m.1 whole columns m.2
step_to whole (Behind first) columns t ts m = weighing_to m.1 whole columns m.2
step_to whole (Weight first) columns t ts m =
    subst (λ weight. Goes whole (weight_read weight first columns) ts) (sym (m.1).1) (m.0, (m.1).2, m.2)
step_to whole (Weighted first) columns t ts m = further_to m.1 whole columns m.2

joined_from : (whole : List MatchColumn) (first : MatchColumn) (columns : List MatchColumn) (t : Lexeme) (ts : List Lexeme) (b : Bool) → is_or t.token ≡ b → Goes whole (joined b first columns) ts → Goes whole (goes (state (Weighted first) columns)) (t ∷ ts)
joined_from whole first columns t ts true e m = (first ∷ m.0, another e m.1, m.2 ∙ append_assoc columns (first ∷ []) m.0)
joined_from whole first columns t ts false e m = absurd m

weight_from : (whole : List MatchColumn) (first : MatchColumn) (columns : List MatchColumn) (t : Lexeme) (ts : List Lexeme) → is_star t.token ≡ true → Goes whole (goes (state (Weight first) columns)) ts → Goes whole (goes (state (Behind first) columns)) (t ∷ ts)
weight_from whole first columns t [] e m = absurd m.1
weight_from whole first columns t (u ∷ ts) e m = (m.0, a_weight e (m.1).1 (m.1).2, m.2)

step_from : (whole : List MatchColumn) (place : Place) (columns : List MatchColumn) (t : Lexeme) (ts : List Lexeme) → Goes whole (column_step place columns t) ts → Goes whole (goes (state place columns)) (t ∷ ts)
step_from whole Path columns t ts m = go (column_word t.token) refl m
  where
    go : (word : Option (List ℕ)) → column_word t.token ≡ word → Goes whole (path_read word t.at columns) ts → Goes whole (goes (state Path columns)) (t ∷ ts)
    go None e m = absurd m
    go (Some word) e m = (m.0, a_column e m.1, m.2)
step_from whole (Behind first) columns t ts m = go (is_star t.token) refl m
  where
    go : (b : Bool) → is_star t.token ≡ b → Goes whole (cond b (goes (state (Weight first) columns)) (joined (is_or t.token) first columns)) ts → Goes whole (goes (state (Behind first) columns)) (t ∷ ts)
    go true e m = weight_from whole first columns t ts e m
    go false e m = let f = joined_from whole first columns t ts (is_or t.token) refl m in (f.0, no_weight f.1, f.2)
step_from whole (Weight first) columns t ts m = go (weight_of t.token) refl m
  where
    go : (weight : Option ℕ) → weight_of t.token ≡ weight → Goes whole (weight_read weight first columns) ts → Goes whole (goes (state (Weight first) columns)) (t ∷ ts)
    go None e m = absurd m
    go (Some weight) e m = (m.0, (weight, e, m.1), m.2)
step_from whole (Weighted first) columns t ts m = joined_from whole first columns t ts (is_or t.token) refl m

run_to : (whole : List MatchColumn) (ts more : List Lexeme) (next : Outcome State) → Goes whole next (ts ++ more) → Goes whole (run columns_step_of next ts) more
run_to whole [] more next m = m
run_to whole (t ∷ ts) more (goes (state place columns)) m = run_to whole ts more (column_step place columns t) (step_to whole place columns t (ts ++ more) m)
run_to whole (t ∷ ts) more deep m = m
run_to whole (t ∷ ts) more wrong m = m

run_from : (whole : List MatchColumn) (ts more : List Lexeme) (next : Outcome State) → Goes whole (run columns_step_of next ts) more → Goes whole next (ts ++ more)
run_from whole [] more next m = m
run_from whole (t ∷ ts) more (goes (state place columns)) m = step_from whole place columns t (ts ++ more) (run_from whole ts more (column_step place columns t) m)
run_from whole (t ∷ ts) more deep m = m
run_from whole (t ∷ ts) more wrong m = m

no_columns : {more : List MatchColumn} → Columns [] more → ⊥
no_columns c = elim c [ ]

weighing_end : {first : MatchColumn} {more : List MatchColumn} → Weighing first [] more → more ≡ first ∷ []
weighing_end (no_weight no_column) = refl

further_end : {first : MatchColumn} {more : List MatchColumn} → Further first [] more → more ≡ first ∷ []
further_end no_column = refl

end_to : (whole : List MatchColumn) (next : Outcome State) → Goes whole next [] → end_of columns_end_of next ≡ Some whole
end_to whole (goes (state Path columns)) m = absurd (no_columns m.1)
end_to whole (goes (state (Behind first) columns)) m = ap Some (sym (m.2 ∙ ap (λ more. columns ++ more) (weighing_end m.1)))
end_to whole (goes (state (Weight first) columns)) m = absurd m.1
end_to whole (goes (state (Weighted first) columns)) m = ap Some (sym (m.2 ∙ ap (λ more. columns ++ more) (further_end m.1)))
end_to whole deep m = absurd m
end_to whole wrong m = absurd m

end_from : (whole : List MatchColumn) (next : Outcome State) → end_of columns_end_of next ≡ Some whole → Goes whole next []
end_from whole (goes (state Path columns)) e = absurd (none_is e)
end_from whole (goes (state (Behind first) columns)) e = (first ∷ [], no_weight no_column, sym (some_is e))
end_from whole (goes (state (Weight first) columns)) e = absurd (none_is e)
end_from whole (goes (state (Weighted first) columns)) e = (first ∷ [], no_column, sym (some_is e))
end_from whole deep e = absurd (none_is e)
end_from whole wrong e = absurd (none_is e)

-- the tokens are columns exactly where the reader ends with them
pub columns_end_to : (levels : ℕ) (ts : List Lexeme) (whole : List MatchColumn) → Columns ts whole → end_of columns_end_of (run columns_step_of (goes (columns_begin levels)) ts) ≡ Some whole
columns_end_to levels ts whole c = end_to whole (run columns_step_of (goes (columns_begin levels)) ts) (run_to whole ts [] (goes (columns_begin levels)) (whole, subst (λ us. Columns us whole) (sym (append-nil ts)) c, refl))

pub columns_end_from : (levels : ℕ) (ts : List Lexeme) (whole : List MatchColumn) → end_of columns_end_of (run columns_step_of (goes (columns_begin levels)) ts) ≡ Some whole → Columns ts whole
columns_end_from levels ts whole e =
    let m = run_from whole ts [] (goes (columns_begin levels)) (end_from whole (run columns_step_of (goes (columns_begin levels)) ts) e) in
    subst (λ us. Columns us whole) (append-nil ts) (subst (Columns (ts ++ [])) (sym m.2) m.1)

is_on : (whole : List MatchColumn) (next : Outcome State) (ts : List Lexeme) → Goes whole next ts → IsGoing next
is_on whole (goes (state place columns)) ts m = tt
is_on whole deep ts m = m
is_on whole wrong ts m = m

-- the tokens begin columns exactly where the reader goes on behind them
pub begin_to : (levels : ℕ) (ts : List Lexeme) → Begins AreColumns levels ts → IsGoing (run columns_step_of (goes (columns_begin levels)) ts)
begin_to levels ts b = is_on b.1 (run columns_step_of (goes (columns_begin levels)) ts) b.0 (run_to b.1 ts b.0 (goes (columns_begin levels)) (b.1, b.2, refl))

word : Lexeme
word = record { at = 0; token = path (codes "a") }

one : Lexeme
one = record { at = 0; token = digits (Some 1) }

word_column : column_word word.token ≡ Some (codes "a")
unfolding word
word_column = refl

one_weight : weight_of one.token ≡ Some 1
unfolding one
one_weight = refl

ending : (place : Place) (columns : List MatchColumn) → (whole : List MatchColumn) × (ts : List Lexeme) × Goes whole (goes (state place columns)) ts
unfolding word
ending Path columns = (_, word ∷ [], (column (codes "a") 0 1 ∷ [], a_column word_column (no_weight no_column), refl))
ending (Behind first) columns = (_, [], (first ∷ [], no_weight no_column, refl))
ending (Weight first) columns = (_, one ∷ [], (weighted 1 first ∷ [], (1, one_weight, no_column), refl))
ending (Weighted first) columns = (_, [], (first ∷ [], no_column, refl))

pub begin_from : (levels : ℕ) (ts : List Lexeme) → IsGoing (run columns_step_of (goes (columns_begin levels)) ts) → Begins AreColumns levels ts
begin_from levels ts g = go (run columns_step_of (goes (columns_begin levels)) ts) g (λ whole more m. run_from whole ts more (goes (columns_begin levels)) m)
  where
    go : (next : Outcome State) → IsGoing next → ((whole : List MatchColumn) (more : List Lexeme) → Goes whole next more → Goes whole (goes (columns_begin levels)) (ts ++ more)) → Begins AreColumns levels ts
    go (goes (state place columns)) g back = let e = ending place columns in let m = back e.0 e.1 e.2 in (e.1, m.0, m.1)
    go deep g back = absurd g
    go wrong g back = absurd g

-- too many levels are never open
abbrev NeverDeep : Outcome State → Type 0
NeverDeep (goes s) = Unit {0}
NeverDeep deep = ⊥
NeverDeep wrong = Unit {0}

joined_never : (b : Bool) (first : MatchColumn) (columns : List MatchColumn) → NeverDeep (joined b first columns)
joined_never true first columns = tt
joined_never false first columns = tt

step_never : (place : Place) (columns : List MatchColumn) (t : Lexeme) → NeverDeep (column_step place columns t)
step_never Path columns t = go (column_word t.token)
  where
    go : (word : Option (List ℕ)) → NeverDeep (path_read word t.at columns)
    go None = tt
    go (Some name) = tt
step_never (Behind first) columns t = go (is_star t.token)
  where
    go : (b : Bool) → NeverDeep (cond b (goes (state (Weight first) columns)) (joined (is_or t.token) first columns))
    go true = tt
    go false = joined_never (is_or t.token) first columns
step_never (Weight first) columns t = go (weight_of t.token)
  where
    go : (weight : Option ℕ) → NeverDeep (weight_read weight first columns)
    go None = tt
    go (Some weight) = tt
step_never (Weighted first) columns t = joined_never (is_or t.token) first columns

-- no level is opened, so one more is never asked for
step_raised : (o : Outcome State) → NeverDeep o → Raises (λ s. s) o o
step_raised (goes s) n = refl
step_raised deep n = n
step_raised wrong n = refl

pub state_raised : (s : State) (t : Lexeme) → Raises (λ s. s) (columns_step_of s t) (columns_step_of s t)
state_raised (state place columns) t = step_raised (column_step place columns t) (step_never place columns t)
