-- The columns of texts whose numbers are weights are well made.
use Rattle.std.proofs.Common.{◌≡◌, ◌≤◌, ℕ, Bool, true, false, cond, Option, Some, None, List, [], refl, sym, subst, arith}
use Rattle.std.specs.Prelude.{◌-◌, ◌^◌, is_some, min, nat_le, not, ◌&&◌, IsUtf8}
use Rattle.std.proofs.lemmas.Bool.{leb-true}
use Rattle.std.proofs.lemmas.List.Elements.{All-cons, All-nil}
use Rattle.gr_ast.specs.Columns.{IsMadeColumn, AreMadeColumns}
use Rattle.gr_ast.specs.declared.columns.MatchColumn.{MatchColumn}
use Rattle.gr_ast.specs.declared.limits.TheConstants.{LEAST_WEIGHT, MOST_WEIGHT}
use Rattle.gr_script.specs.declared.token.Token.{Token}
use Rattle.gr_script.specs.declared.token.Token.TheVariants.{Symbol as symbol, Digits as digits, Text as text, Path as path}
use Rattle.gr_script.specs.Columns.{column_word, weight_of, Columns, a_column, Weighing, no_weight, a_weight, Further, no_column, another, is_no_weight}
use Rattle.gr_script.specs.Token.{IsText, Lexeme}
use Rattle.gr_script.specs.Words.{reserved}
use Rattle.gr_text.proofs.Cases.{some_is, none_is, false_is}
use Rattle.gr_text.specs.Inside.Reading.{AreText}
use Rattle.gr_text.specs.Sentences.{first_where}

-- a word that is a column's path is text
word_text : (token : Token) (word : List ℕ) → column_word token ≡ Some word → IsText token → IsUtf8 word
word_text (symbol mark) word e h = absurd (none_is e)
word_text (digits n) word e h = absurd (none_is e)
word_text (text bytes) word e h = absurd (none_is e)
word_text (path name) word e h = go (is_some (reserved name)) e
  where
    go : (b : Bool) → cond b None (Some name) ≡ Some word → IsUtf8 word
    go true e = absurd (none_is e)
    go false e = subst IsUtf8 (some_is e) h

-- the tokens behind one that is not such a first one have the same first one
later_none : (b : Bool) (at : ℕ) (o : Option ℕ) → cond b (Some at) o ≡ None → (b ≡ false) × (o ≡ None)
later_none true at o e = absurd (none_is (sym e))
later_none false at o e = (refl, e)

-- a number that is a weight is 1 to 1,000
weight_fits : (token : Token) (weight : ℕ) → weight_of token ≡ Some weight → is_no_weight token ≡ false → (LEAST_WEIGHT ≤ weight) × (weight ≤ MOST_WEIGHT)
weight_fits (symbol mark) weight e f = absurd (none_is e)
weight_fits (text bytes) weight e f = absurd (none_is e)
weight_fits (path word) weight e f = absurd (none_is e)
weight_fits (digits None) weight e f = absurd (false_is (sym f))
weight_fits (digits (Some n)) weight e f = go (nat_le LEAST_WEIGHT n) (nat_le n MOST_WEIGHT) refl refl f
  where
    same : min n (2 ^ 32 - 1) ≡ weight
    same = some_is e

    go : (a b : Bool) → nat_le LEAST_WEIGHT n ≡ a → nat_le n MOST_WEIGHT ≡ b → not (a && b) ≡ false → (LEAST_WEIGHT ≤ weight) × (weight ≤ MOST_WEIGHT)
    go true true l m f = let low = leb-true LEAST_WEIGHT n l in let high = leb-true n MOST_WEIGHT m in (omega (arith, same), omega (arith, same))
    go true false l m f = absurd (false_is (sym f))
    go false b l m f = absurd (false_is (sym f))

mutual
  -- the columns of texts whose numbers are weights are well made
  pub made_columns : {ts : List Lexeme} {columns : List MatchColumn} → Columns ts columns → AreText IsText ts → first_where is_no_weight ts ≡ None → AreMadeColumns columns
  made_columns (a_column {t = t} {word = word} e w) h o =
      made_weighing w h.1 (later_none (is_no_weight t.token) _ _ o).1 (record { path = word_text t.token word e h.0; least = omega arith; most = omega arith })

  made_weighing : {first : MatchColumn} {ts : List Lexeme} {columns : List MatchColumn} → Weighing first ts columns → AreText IsText ts → first_where is_no_weight ts ≡ None → IsMadeColumn first → AreMadeColumns columns
  made_weighing (no_weight f) h o m = made_further f h o m
  made_weighing (a_weight {t = t} {u = u} {weight = weight} star w f) h o m =
      let behind_star = (later_none (is_no_weight t.token) _ _ o).1 in
      let behind_weight = later_none (is_no_weight u.token) _ _ behind_star in
      let fits = weight_fits u.token weight w behind_weight.0 in
      made_further f (h.1).1 behind_weight.1 (record { path = m.path; least = fits.0; most = fits.1 })

  made_further : {first : MatchColumn} {ts : List Lexeme} {columns : List MatchColumn} → Further first ts columns → AreText IsText ts → first_where is_no_weight ts ≡ None → IsMadeColumn first → AreMadeColumns columns
  made_further (no_column {first = first}) h o m = record { some = omega arith; each = All-cons IsMadeColumn first [] m (All-nil IsMadeColumn) }
  made_further (another {first = first} {t = t} {columns = columns} e c) h o m =
      let others = made_columns c h.1 (later_none (is_no_weight t.token) _ _ o).1 in
      record { some = omega arith; each = All-cons IsMadeColumn first columns m others.each }
