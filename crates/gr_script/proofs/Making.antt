-- The trees that the grammar makes of texts are well made.
use Rattle.std.proofs.Common.{◌≡◌, ◌≤◌, ℕ, Bool, true, List, [], ◌∷◌, length, map, IsUtf8, refl, ap, subst}
use Rattle.std.proofs.lemmas.Bool.{eqb-true, leb-true}
use Rattle.std.specs.Prelude.{unwrap_or, Option, Some, None}
use Rattle.gr_ast.specs.declared.operators.Arith.{Arith}
use Rattle.gr_base.specs.declared.compare.Cmp.{Cmp}
use Rattle.gr_ast.specs.declared.ast.Ast.{Ast, every_made-Ast}
use Rattle.gr_ast.specs.declared.ast.Ast.TheOpen.{Ast-F}
use Rattle.gr_ast.specs.declared.ast.Ast.TheVariants as ast
use Rattle.gr_ast.specs.declared.ast.Combined.{Combined, every-Combined, every_made-Combined}
use Rattle.gr_ast.specs.declared.operators.FieldOp.{FieldOp}
use Rattle.gr_ast.specs.declared.operators.FieldOp.TheVariants.{Compare, Find}
use Rattle.gr_ast.specs.declared.operators.Join.{Join}
use Rattle.gr_ast.specs.declared.operators.Seek.{Seek}
use Rattle.gr_ast.specs.declared.ast.Joined.{Joined, every-Joined, every_made-Joined}
use Rattle.gr_script.specs.declared.grammar.Call.{Call}
use Rattle.gr_script.specs.declared.grammar.Call.TheVariants.{Between, InValues}
use Rattle.gr_script.specs.declared.grammar.Reserved.{Reserved}
use Rattle.gr_script.specs.declared.grammar.Reserved.TheVariants.{Truth, Called}
use Rattle.gr_script.specs.declared.grammar.Sign.{Sign}
use Rattle.gr_script.specs.declared.grammar.Sign.TheVariants as sign
use Rattle.gr_script.specs.declared.grammar.ConditionLine.{ConditionLine}
use Rattle.gr_script.specs.declared.grammar.NumberLine.{NumberLine}
use Rattle.gr_script.specs.declared.grammar.Start.{Start}
use Rattle.gr_script.specs.declared.grammar.Start.TheVariants as start
use Rattle.gr_script.specs.declared.token.Symbol.{Symbol}
use Rattle.gr_script.specs.declared.token.Symbol.TheVariants as s
use Rattle.gr_script.specs.Grammar.{Part, Parses, a_chain, a_number, a_test, a_calculation, a_leaf, a_sign, a_group, a_call, Links, no_link, a_link, Terms, no_term, a_term, Arguments, no_argument, an_argument}
use Rattle.gr_script.specs.declared.token.Token.{Token}
use Rattle.gr_script.specs.declared.token.Token.TheVariants.{Symbol as symbol, Digits as digits, Text as text, Path as path}
use Rattle.gr_script.specs.Token.{IsText, Lexeme}
use Rattle.gr_script.specs.Words.{greatest, reserved, start_by, word_at, start_with, start_at}
use Rattle.gr_ast.specs.Made.{IsMadeLayer, IsScriptLayer, AnyLink, AnyTerm, Every, IsMade, IsOfScript}
use Rattle.gr_text.specs.Inside.Reading.{AreText}
use Rattle.gr_ast.specs.declared.limits.TheConstants.{BETWEEN_ARGUMENTS, LEAST_IN_VALUES}
use Rattle.gr_ast.specs.Trees.{Layer, place_of, link, term}
use Rattle.gr_script.specs.Trees.{chain_of, calculation_of, tested, signed, called, takes}

-- this holds of each level that the grammar makes of texts
pub record Holds (IsLayer : Layer → Type 0) : Type 0 where
  pub path : (at : ℕ) (word : List ℕ) → IsUtf8 word → IsLayer (Ast-F.Path at word)
  pub text : (at : ℕ) (bytes : List ℕ) → IsUtf8 bytes → IsLayer (Ast-F.Text at bytes)
  pub number : (at value : ℕ) → IsLayer (Ast-F.Number at value)
  pub truth : (at : ℕ) (value : Bool) → IsLayer (Ast-F.Truth at value)
  pub negation : (at : ℕ) (of : Ast) → IsLayer (Ast-F.Not at of)
  pub minus : (at : ℕ) (of : Ast) → IsLayer (Ast-F.Minus at of)
  pub comparison : (at : ℕ) (cmp : Cmp) (left right : Ast) → IsLayer (Ast-F.Compare at cmp left right)
  pub search_for : (at : ℕ) (seek : Seek) (left right : Ast) → IsLayer (Ast-F.Find at seek left right)
  pub chain : (at : ℕ) (first : Ast) (rest : List Joined) → IsLayer (Ast-F.Chain at first rest)
  pub calculation : (at : ℕ) (first : Ast) (rest : List Combined) → IsLayer (Ast-F.Calc at first rest)
  pub between : (at : ℕ) (args : List Ast) → length args ≡ BETWEEN_ARGUMENTS → IsLayer (Ast-F.Between at args)
  pub in_values : (at : ℕ) (args : List Ast) → LEAST_IN_VALUES ≤ length args → IsLayer (Ast-F.InValues at args)

module _ (IsLayer : Layer → Type 0) (holds : Holds IsLayer) where
  -- of each level of the tree it holds
  abbrev pub Made : Ast → Type 0
  Made tree = Every IsLayer tree

  -- a tree of which it holds
  abbrev pub MadeTree : Type 0
  MadeTree = (tree : Ast) × Made tree

  abbrev pub MadeLink : Type 0
  MadeLink = (link : Joined) × every-Joined IsLayer AnyTerm AnyLink link

  abbrev pub MadeTerm : Type 0
  MadeTerm = (term : Combined) × every-Combined IsLayer AnyTerm AnyLink term

  abbrev pub AreMade : List Ast → Type 0
  AreMade trees = (made : List MadeTree) × (map (λ m. m.0) made ≡ trees)

  abbrev pub AreMadeLinks : List Joined → Type 0
  AreMadeLinks links = (made : List MadeLink) × (map (λ m. m.0) made ≡ links)

  abbrev pub AreMadeTerms : List Combined → Type 0
  AreMadeTerms terms = (made : List MadeTerm) × (map (λ m. m.0) made ≡ terms)

  pub made_path : (at : ℕ) (word : List ℕ) → IsUtf8 word → Made (ast.Path at word)
  made_path at word h = subst Made (ast.rolls-Path at word) (every_made-Ast IsLayer AnyTerm AnyLink (Ast-F.Path at word) (Ast-F.Path at word) refl (holds.path at word h))

  pub made_text : (at : ℕ) (bytes : List ℕ) → IsUtf8 bytes → Made (ast.Text at bytes)
  made_text at bytes h = subst Made (ast.rolls-Text at bytes) (every_made-Ast IsLayer AnyTerm AnyLink (Ast-F.Text at bytes) (Ast-F.Text at bytes) refl (holds.text at bytes h))

  pub made_number : (at value : ℕ) → Made (ast.Number at value)
  made_number at value = subst Made (ast.rolls-Number at value) (every_made-Ast IsLayer AnyTerm AnyLink (Ast-F.Number at value) (Ast-F.Number at value) refl (holds.number at value))

  pub made_truth : (at : ℕ) (value : Bool) → Made (ast.Truth at value)
  made_truth at value = subst Made (ast.rolls-Truth at value) (every_made-Ast IsLayer AnyTerm AnyLink (Ast-F.Truth at value) (Ast-F.Truth at value) refl (holds.truth at value))

  pub made_signed : (sign : Sign) (at : ℕ) (of : Ast) → Made of → Made (signed sign at of)
  made_signed sign.Not at of m = subst Made (ast.rolls-Not at of) (every_made-Ast IsLayer AnyTerm AnyLink (Ast-F.Not at of) (Ast-F.Not at (of, m)) refl (holds.negation at of))
  made_signed sign.Minus at of m = subst Made (ast.rolls-Minus at of) (every_made-Ast IsLayer AnyTerm AnyLink (Ast-F.Minus at of) (Ast-F.Minus at (of, m)) refl (holds.minus at of))

  pub made_tested : (test : FieldOp) (left right : Ast) → Made left → Made right → Made (tested test left right)
  made_tested (Compare cmp) left right m n = subst Made (ast.rolls-Compare (place_of left) cmp left right) (every_made-Ast IsLayer AnyTerm AnyLink (Ast-F.Compare (place_of left) cmp left right) (Ast-F.Compare (place_of left) cmp (left, m) (right, n)) refl (holds.comparison (place_of left) cmp left right))
  made_tested (Find seek) left right m n = subst Made (ast.rolls-Find (place_of left) seek left right) (every_made-Ast IsLayer AnyTerm AnyLink (Ast-F.Find (place_of left) seek left right) (Ast-F.Find (place_of left) seek (left, m) (right, n)) refl (holds.search_for (place_of left) seek left right))

  pub made_link : (join : Join) (of : Ast) → Made of → every-Joined IsLayer AnyTerm AnyLink (link join of)
  made_link join of m = every_made-Joined IsLayer AnyTerm AnyLink (record { join = join; of = of }) (record { join = join; of = (of, m) }) refl tt

  pub made_term : (arith : Arith) (of : Ast) → Made of → every-Combined IsLayer AnyTerm AnyLink (term arith of)
  made_term sign of m = every_made-Combined IsLayer AnyTerm AnyLink (record { arith = sign; of = of }) (record { arith = sign; of = (of, m) }) refl tt

  pub made_chain : (first : Ast) (links : List Joined) → Made first → AreMadeLinks links → Made (chain_of first links)
  made_chain first [] m l = m
  made_chain first (second ∷ rest) m l =
      subst Made (ast.rolls-Chain (place_of first) first (second ∷ rest)) (every_made-Ast IsLayer AnyTerm AnyLink (Ast-F.Chain (place_of first) first (second ∷ rest)) (Ast-F.Chain (place_of first) (first, m) l.0) (ap (Ast-F.Chain (place_of first) first) l.1) (holds.chain (place_of first) first (second ∷ rest)))

  pub made_calculation : (first : Ast) (terms : List Combined) → Made first → AreMadeTerms terms → Made (calculation_of first terms)
  made_calculation first [] m l = m
  made_calculation first (second ∷ rest) m l =
      subst Made (ast.rolls-Calc (place_of first) first (second ∷ rest)) (every_made-Ast IsLayer AnyTerm AnyLink (Ast-F.Calc (place_of first) first (second ∷ rest)) (Ast-F.Calc (place_of first) (first, m) l.0) (ap (Ast-F.Calc (place_of first) first) l.1) (holds.calculation (place_of first) first (second ∷ rest)))

  pub made_called : (call : Call) (at : ℕ) (args : List Ast) → AreMade args → takes call (length args) ≡ true → Made (called call at args)
  made_called Between at args m k = subst Made (ast.rolls-Between at args) (every_made-Ast IsLayer AnyTerm AnyLink (Ast-F.Between at args) (Ast-F.Between at m.0) (ap (Ast-F.Between at) m.1) (holds.between at args (eqb-true (length args) BETWEEN_ARGUMENTS k)))
  made_called InValues at args m k = subst Made (ast.rolls-InValues at args) (every_made-Ast IsLayer AnyTerm AnyLink (Ast-F.InValues at args) (Ast-F.InValues at m.0) (ap (Ast-F.InValues at) m.1) (holds.in_values at args (leb-true LEAST_IN_VALUES (length args) k)))

  abbrev MadeStart : Start → Type 0
  MadeStart (start.Leaf tree) = Made tree
  MadeStart _ = Unit {0}

  made_word : (at : ℕ) (word : List ℕ) → IsUtf8 word → MadeStart (word_at at word)
  made_word at word h = go (reserved word)
    where
      go : (meaning : Option Reserved) → MadeStart (start_by at word meaning)
      go None = made_path at word h
      go (Some (Truth value)) = made_truth at value
      go (Some (Called call)) = tt

  made_mark : (mark : Symbol) → MadeStart (start_with mark)
  made_mark s.Open = tt
  made_mark s.Not = tt
  made_mark s.Minus = tt
  made_mark _ = tt

  made_start : (at : ℕ) (token : Token) → IsText token → MadeStart (start_at at token)
  made_start at (symbol mark) h = made_mark mark
  made_start at (digits value) h = made_number at (unwrap_or value greatest)
  made_start at (text bytes) h = made_text at bytes h
  made_start at (path word) h = made_word at word h

  mutual
    -- what is read of texts is well made, and what is left is texts
    pub made_part : {p : Part} {levels : ℕ} {ts rest : List Lexeme} {tree : Ast} → Parses p levels ts tree rest → AreText IsText ts → Made tree × AreText IsText rest
    made_part (a_chain {first = first} {links = links} r l) h =
        let m = made_part r h in
        let n = made_links l m.1 in
        (made_chain first links m.0 n.0, n.1)
    made_part (a_number r) h = made_part r h
    made_part (a_test {left = left} {right = right} {test = test} r e o) h =
        let m = made_part r h in
        let n = made_part o (m.1).1 in
        (made_tested test left right m.0 n.0, n.1)
    made_part (a_calculation {first = first} {terms = terms} r l) h =
        let m = made_part r h in
        let n = made_terms l m.1 in
        (made_calculation first terms m.0 n.0, n.1)
    made_part (a_leaf {t = t} e) h = (subst MadeStart e (made_start t.at t.token h.0), h.1)
    made_part (a_sign {t = t} {of = of} {sign = sign} e r) h =
        let m = made_part r h.1 in
        (made_signed sign t.at of m.0, m.1)
    made_part (a_group e r c) h =
        let m = made_part r h.1 in
        (m.0, (m.1).1)
    made_part (a_call {t = t} {first = first} {more = more} {call = call} e o r a k) h =
        let m = made_part r (h.1).1 in
        let n = made_arguments a m.1 in
        (made_called call t.at (first ∷ more) ((first, m.0) ∷ (n.0).0, ap (λ trees. first ∷ trees) (n.0).1) k, n.1)

    made_links : {line : ConditionLine} {levels : ℕ} {ts rest : List Lexeme} {links : List Joined} → Links line levels ts links rest → AreText IsText ts → AreMadeLinks links × AreText IsText rest
    made_links no_link h = (([], refl), h)
    made_links (a_link {join = join} {of = of} e r l) h =
        let m = made_part r h.1 in
        let n = made_links l m.1 in
        (((link join of, made_link join of m.0) ∷ (n.0).0, ap (λ links. link join of ∷ links) (n.0).1), n.1)

    made_terms : {line : NumberLine} {levels : ℕ} {ts rest : List Lexeme} {terms : List Combined} → Terms line levels ts terms rest → AreText IsText ts → AreMadeTerms terms × AreText IsText rest
    made_terms no_term h = (([], refl), h)
    made_terms (a_term {arith = sign} {of = of} e r l) h =
        let m = made_part r h.1 in
        let n = made_terms l m.1 in
        (((term sign of, made_term sign of m.0) ∷ (n.0).0, ap (λ terms. term sign of ∷ terms) (n.0).1), n.1)

    made_arguments : {levels : ℕ} {ts rest : List Lexeme} {more : List Ast} → Arguments levels ts more rest → AreText IsText ts → AreMade more × AreText IsText rest
    made_arguments (no_argument e) h = (([], refl), h.1)
    made_arguments (an_argument {tree = tree} e r a) h =
        let m = made_part r h.1 in
        let n = made_arguments a m.1 in
        (((tree, m.0) ∷ (n.0).0, ap (λ trees. tree ∷ trees) (n.0).1), n.1)

is_made : Holds IsMadeLayer
is_made = record {
  path = λ at word h. h;
  text = λ at bytes h. h;
  number = λ at value. tt;
  truth = λ at value. tt;
  negation = λ at of. tt;
  minus = λ at of. tt;
  comparison = λ at cmp left right. tt;
  search_for = λ at seek left right. tt;
  chain = λ at first rest. tt;
  calculation = λ at first rest. tt;
  between = λ at args count. count;
  in_values = λ at args count. count;
}

is_of_script : Holds IsScriptLayer
is_of_script = record {
  path = λ at word h. tt;
  text = λ at bytes h. tt;
  number = λ at value. tt;
  truth = λ at value. tt;
  negation = λ at of. tt;
  minus = λ at of. tt;
  comparison = λ at cmp left right. tt;
  search_for = λ at seek left right. tt;
  chain = λ at first rest. tt;
  calculation = λ at first rest. tt;
  between = λ at args count. tt;
  in_values = λ at args count. tt;
}

pub made_script : {p : Part} {levels : ℕ} {ts rest : List Lexeme} {tree : Ast} → Parses p levels ts tree rest → AreText IsText ts → IsMade tree
made_script r h = (made_part IsMadeLayer is_made r h).0

pub shaped_script : {p : Part} {levels : ℕ} {ts rest : List Lexeme} {tree : Ast} → Parses p levels ts tree rest → AreText IsText ts → IsOfScript tree
shaped_script r h = (made_part IsScriptLayer is_of_script r h).0
