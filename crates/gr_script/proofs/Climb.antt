-- From an operand up through the looser parts of the grammar.
use Rattle.std.proofs.Common.{◌≡◌, ◌≢◌, ◌≤◌, ℕ, suc, List, [], ◌∷◌, refl, sym, ◌∙◌, ap, arith}
use mathlib.Core.Path.{ap₂}
use Rattle.gr_ast.specs.declared.ast.Ast.{Ast}
use Rattle.gr_ast.specs.declared.ast.Combined.{Combined}
use Rattle.gr_ast.specs.declared.operators.FieldOp.{FieldOp}
use Rattle.gr_ast.specs.declared.ast.Joined.{Joined}
use Rattle.gr_script.specs.declared.grammar.After.TheVariants.{Tests}
use Rattle.gr_script.specs.declared.grammar.ConditionLine.{ConditionLine}
use Rattle.gr_script.specs.declared.grammar.ConditionLine.TheVariants.{Any, All}
use Rattle.gr_script.specs.declared.grammar.NumberLine.{NumberLine}
use Rattle.gr_script.specs.declared.grammar.NumberLine.TheVariants.{Sum, Product}
use Rattle.gr_script.specs.Grammar.{Part, conditions, comparison, numbers, operand, of_conditions, of_numbers, Parses, a_chain, a_number, a_test, a_calculation, a_leaf, a_sign, a_group, a_call, Links, no_link, a_link, Terms, no_term, a_term}
use Rattle.gr_script.specs.Inside.Machine.{tightness, number_tightness, pull}
use Rattle.gr_script.specs.Token.{Lexeme}
use Rattle.gr_script.specs.Trees.{chain_of, calculation_of, tested}
use Rattle.gr_script.specs.Words.{after_of}

-- how tightly a part binds
abbrev pub rank : Part → ℕ
rank (conditions line) = tightness line
rank comparison = 3
rank (numbers line) = number_tightness line
rank operand = 6

-- how tightly the first token binds an operand before it
abbrev pub pull_of : List Lexeme → ℕ
pull_of [] = 0
pull_of (t ∷ ts) = pull (after_of t)

pub rank-of_conditions : (line : ConditionLine) → rank (of_conditions line) ≡ suc (tightness line)
rank-of_conditions Any = refl
rank-of_conditions All = refl

pub rank-of_numbers : (line : NumberLine) → rank (of_numbers line) ≡ suc (number_tightness line)
rank-of_numbers Sum = refl
rank-of_numbers Product = refl

pub tightness_below : (line : ConditionLine) → tightness line ≤ 2
tightness_below Any = omega arith
tightness_below All = omega arith

pub tightness_above : (line : NumberLine) → 4 ≤ number_tightness line
tightness_above Sum = omega arith
tightness_above Product = omega arith

-- Behind the operand tree, of the part from, the tokens ts go on to this looser part; its tree, and the tokens after it.
pub data Climbs (from : Part) (levels : ℕ) (tree : Ast) (ts : List Lexeme) : Part → Ast → List Lexeme → Type 0 where
  here : Climbs from levels tree ts from tree ts
  chained : {line : ConditionLine} {us rest : List Lexeme} {first : Ast} {links : List Joined} → Climbs from levels tree ts (of_conditions line) first us → Links line levels us links rest → Climbs from levels tree ts (conditions line) (chain_of first links) rest
  numbered : {rest : List Lexeme} {number : Ast} → Climbs from levels tree ts (numbers Sum) number rest → Climbs from levels tree ts comparison number rest
  compared : {t : Lexeme} {us rest : List Lexeme} {left right : Ast} {test : FieldOp} → Climbs from levels tree ts (numbers Sum) left (t ∷ us) → after_of t ≡ Tests test → Parses (numbers Sum) levels us right rest → Climbs from levels tree ts comparison (tested test left right) rest
  calculated : {line : NumberLine} {us rest : List Lexeme} {first : Ast} {terms : List Combined} → Climbs from levels tree ts (of_numbers line) first us → Terms line levels us terms rest → Climbs from levels tree ts (numbers line) (calculation_of first terms) rest

-- each part begins with an operand
pub split : {p : Part} {levels : ℕ} {ts rest : List Lexeme} {tree : Ast} → Parses p levels ts tree rest → (x : Ast) × (us : List Lexeme) × Parses operand levels ts x us × Climbs operand levels x us p tree rest
split (a_chain r l) = let s = split r in (s.0, s.1, s.2, chained s.3 l)
split (a_number r) = let s = split r in (s.0, s.1, s.2, numbered s.3)
split (a_test r e o) = let s = split r in (s.0, s.1, s.2, compared s.3 e o)
split (a_calculation r l) = let s = split r in (s.0, s.1, s.2, calculated s.3 l)
split (a_leaf e) = (_, _, a_leaf e, here)
split (a_sign e r) = (_, _, a_sign e r, here)
split (a_group e r c) = (_, _, a_group e r c, here)
split (a_call e o r a k) = (_, _, a_call e o r a k, here)

pub merge : {p : Part} {levels : ℕ} {x : Ast} {ts us rest : List Lexeme} {q : Part} {tree : Ast} → Parses p levels ts x us → Climbs p levels x us q tree rest → Parses q levels ts tree rest
merge r here = r
merge r (chained c l) = a_chain (merge r c) l
merge r (numbered c) = a_number (merge r c)
merge r (compared c e o) = a_test (merge r c) e o
merge r (calculated c l) = a_calculation (merge r c) l

pub onward : {p q : Part} {levels : ℕ} {x y : Ast} {ts us : List Lexeme} {r : Part} {z : Ast} {rest : List Lexeme} → Climbs p levels x ts q y us → Climbs q levels y us r z rest → Climbs p levels x ts r z rest
onward a here = a
onward a (chained c l) = chained (onward a c) l
onward a (numbered c) = numbered (onward a c)
onward a (compared c e o) = compared (onward a c) e o
onward a (calculated c l) = calculated (onward a c) l

pub looser : {p : Part} {levels : ℕ} {x : Ast} {ts : List Lexeme} {q : Part} {y : Ast} {rest : List Lexeme} → Climbs p levels x ts q y rest → rank q ≤ rank p
looser here = omega arith
looser (chained {line = line} c l) = omega (arith, looser c, rank-of_conditions line)
looser (numbered c) = omega (arith, looser c)
looser (compared c e o) = omega (arith, looser c)
looser (calculated {line = line} c l) = omega (arith, looser c, rank-of_numbers line)

pub no_links : {line : ConditionLine} {levels : ℕ} {ts rest : List Lexeme} {links : List Joined} → Links line levels ts links rest → pull_of ts ≢ tightness line → (links ≡ []) × (rest ≡ ts)
no_links no_link n = (refl, refl)
no_links (a_link e r l) n = absurd (n (ap pull e))

pub no_terms : {line : NumberLine} {levels : ℕ} {ts rest : List Lexeme} {terms : List Combined} → Terms line levels ts terms rest → pull_of ts ≢ number_tightness line → (terms ≡ []) × (rest ≡ ts)
no_terms no_term n = (refl, refl)
no_terms (a_term e r l) n = absurd (n (ap pull e))

-- Where the next token binds more loosely than the part reached, or more tightly than the part begun with, nothing more is read.
pub still : {p : Part} {levels : ℕ} {x : Ast} {ts : List Lexeme} {q : Part} {y : Ast} {rest : List Lexeme} → Climbs p levels x ts q y rest → (rank q ≤ pull_of ts → rank p ≤ pull_of ts) → (y ≡ x) × (rest ≡ ts)
still here out = (refl, refl)
still (chained {line = line} c l) out =
    let low = rank-of_conditions line in
    let high = looser c in
    let s = still c (λ h. out (omega arith)) in
    let same = ap pull_of s.1 in
    let n = no_links l (λ e. omega (arith, out (omega arith))) in
    (ap₂ chain_of s.0 n.0, n.1 ∙ s.1)
still (numbered c) out = still c (λ h. out (omega arith))
still (compared c e o) out =
    let high = looser c in
    let s = still c (λ h. out (omega arith)) in
    let same = sym (ap pull e) ∙ ap pull_of s.1 in
    absurd (omega (arith, out (omega arith)))
still (calculated {line = line} c l) out =
    let low = rank-of_numbers line in
    let high = looser c in
    let s = still c (λ h. out (omega arith)) in
    let same = ap pull_of s.1 in
    let n = no_terms l (λ e. omega (arith, out (omega arith))) in
    (ap₂ calculation_of s.0 n.0, n.1 ∙ s.1)
