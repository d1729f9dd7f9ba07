-- What a stack of begun parts means: the tokens that finish them all.
use Rattle.std.proofs.Common.{◌≡◌, ◌≤◌, ℕ, suc, true, List, [], ◌∷◌, ◌++◌, length, ap, arith}
use Rattle.gr_ast.specs.declared.operators.Arith.{Arith}
use Rattle.gr_ast.specs.declared.ast.Ast.{Ast}
use Rattle.gr_ast.specs.declared.ast.Combined.{Combined}
use Rattle.gr_ast.specs.declared.operators.FieldOp.{FieldOp}
use Rattle.gr_ast.specs.declared.operators.Join.{Join}
use Rattle.gr_ast.specs.declared.ast.Joined.{Joined}
use Rattle.gr_script.specs.declared.frame.Frame.{Frame}
use Rattle.gr_script.specs.declared.frame.Frame.TheVariants.{Joining, Testing, Combining, Signing, Grouping, Calling}
use Rattle.gr_script.specs.declared.grammar.After.TheVariants.{Closes}
use Rattle.gr_script.specs.declared.grammar.Call.{Call}
use Rattle.gr_script.specs.declared.grammar.ConditionLine.{ConditionLine}
use Rattle.gr_script.specs.declared.grammar.NumberLine.{NumberLine}
use Rattle.gr_script.specs.declared.grammar.NumberLine.TheVariants.{Sum}
use Rattle.gr_script.specs.declared.grammar.Sign.{Sign}
use Rattle.gr_script.specs.Grammar.{Part, conditions, comparison, numbers, operand, script, of_conditions, of_numbers, Parses, Links, Terms, Arguments, no_argument, an_argument}
use Rattle.gr_script.specs.Inside.Machine.{pull}
use Rattle.gr_script.specs.Token.{Lexeme}
use Rattle.gr_ast.specs.Trees.{link, term}
use Rattle.gr_script.specs.Trees.{chain_of, calculation_of, tested, signed, called, takes}
use Rattle.gr_script.specs.Words.{after_of}
use Rattle.gr_script.proofs.Climb.{rank, pull_of, rank-of_conditions, rank-of_numbers, Climbs, here, onward, looser, no_links, no_terms, still}

-- the part that a begun part is a piece of once it is read
abbrev pub line_of : Frame → Part
line_of (Joining line first links join) = conditions line
line_of (Testing test left) = comparison
line_of (Combining line first terms arith) = numbers line
line_of (Signing sign at) = operand
line_of Grouping = operand
line_of (Calling call at args) = operand

-- the part that a begun part waits for
abbrev pub wanted : Frame → Part
wanted (Joining line first links join) = of_conditions line
wanted (Testing test left) = numbers Sum
wanted (Combining line first terms arith) = of_numbers line
wanted (Signing sign at) = operand
wanted Grouping = script
wanted (Calling call at args) = script

abbrev pub hole : List Frame → Part
hole [] = script
hole (frame ∷ frames) = wanted frame

-- Behind the tree, of this part, in these begun parts, the tokens finish a script of the whole tree.
pub data Completes (whole : Ast) : Part → List Frame → ℕ → Ast → List Lexeme → Type 0 where
  at_bottom : {p : Part} {levels : ℕ} {x : Ast} {ts : List Lexeme} → Climbs p levels x ts script whole [] → Completes whole p [] levels x ts
  in_chain : {p : Part} {line : ConditionLine} {first : Ast} {links : List Joined} {join : Join} {frames : List Frame} {levels : ℕ} {x y : Ast} {ts us rest : List Lexeme} {more : List Joined} → Climbs p levels x ts (of_conditions line) y us → Links line levels us more rest → Completes whole (conditions line) frames levels (chain_of first (links ++ (link join y ∷ more))) rest → Completes whole p (Joining line first links join ∷ frames) levels x ts
  in_test : {p : Part} {test : FieldOp} {left : Ast} {frames : List Frame} {levels : ℕ} {x y : Ast} {ts us : List Lexeme} → Climbs p levels x ts (numbers Sum) y us → Completes whole comparison frames levels (tested test left y) us → Completes whole p (Testing test left ∷ frames) levels x ts
  in_calculation : {p : Part} {line : NumberLine} {first : Ast} {terms : List Combined} {sign : Arith} {frames : List Frame} {levels : ℕ} {x y : Ast} {ts us rest : List Lexeme} {more : List Combined} → Climbs p levels x ts (of_numbers line) y us → Terms line levels us more rest → Completes whole (numbers line) frames levels (calculation_of first (terms ++ (term sign y ∷ more))) rest → Completes whole p (Combining line first terms sign ∷ frames) levels x ts
  in_sign : {p : Part} {sign : Sign} {at : ℕ} {frames : List Frame} {levels : ℕ} {x y : Ast} {ts us : List Lexeme} → Climbs p levels x ts operand y us → Completes whole operand frames (suc levels) (signed sign at y) us → Completes whole p (Signing sign at ∷ frames) levels x ts
  in_group : {p : Part} {frames : List Frame} {levels : ℕ} {x y : Ast} {t : Lexeme} {ts us : List Lexeme} → Climbs p levels x ts script y (t ∷ us) → after_of t ≡ Closes → Completes whole operand frames (suc levels) y us → Completes whole p (Grouping ∷ frames) levels x ts
  in_call : {p : Part} {call : Call} {at : ℕ} {args : List Ast} {frames : List Frame} {levels : ℕ} {x y : Ast} {ts us rest : List Lexeme} {more : List Ast} → Climbs p levels x ts script y us → Arguments levels us more rest → takes call (length (args ++ (y ∷ more))) ≡ true → Completes whole operand frames (suc levels) (called call at (args ++ (y ∷ more))) rest → Completes whole p (Calling call at args ∷ frames) levels x ts

pub prepend : {w : Ast} {p q : Part} {frames : List Frame} {levels : ℕ} {x y : Ast} {ts us : List Lexeme} → Climbs p levels x ts q y us → Completes w q frames levels y us → Completes w p frames levels x ts
prepend b (at_bottom c) = at_bottom (onward b c)
prepend b (in_chain c l m) = in_chain (onward b c) l m
prepend b (in_test c m) = in_test (onward b c) m
prepend b (in_calculation c l m) = in_calculation (onward b c) l m
prepend b (in_sign c m) = in_sign (onward b c) m
prepend b (in_group c e m) = in_group (onward b c) e m
prepend b (in_call c a k m) = in_call (onward b c) a k m

-- a completion as far as the part that the last begun part waits for
pub record Settled (w : Ast) (p : Part) (frames : List Frame) (levels : ℕ) (x : Ast) (ts : List Lexeme) : Type 0 where
  pub tree : Ast
  pub rest : List Lexeme
  pub climbs : Climbs p levels x ts (hole frames) tree rest
  pub completes : Completes w (hole frames) frames levels tree rest

pub settle : {w : Ast} {p : Part} {frames : List Frame} {levels : ℕ} {x : Ast} {ts : List Lexeme} → Completes w p frames levels x ts → Settled w p frames levels x ts
settle (at_bottom c) = record { tree = _; rest = _; climbs = c; completes = at_bottom here }
settle (in_chain c l m) = record { tree = _; rest = _; climbs = c; completes = in_chain here l m }
settle (in_test c m) = record { tree = _; rest = _; climbs = c; completes = in_test here m }
settle (in_calculation c l m) = record { tree = _; rest = _; climbs = c; completes = in_calculation here l m }
settle (in_sign c m) = record { tree = _; rest = _; climbs = c; completes = in_sign here m }
settle (in_group c e m) = record { tree = _; rest = _; climbs = c; completes = in_group here e m }
settle (in_call c a k m) = record { tree = _; rest = _; climbs = c; completes = in_call here a k m }

-- what stands behind a call's argument binds nothing
pub pull_of_arguments : {levels : ℕ} {ts rest : List Lexeme} {more : List Ast} → Arguments levels ts more rest → pull_of ts ≡ 0
pull_of_arguments (no_argument e) = ap pull e
pull_of_arguments (an_argument e r a) = ap pull e

-- Nothing is finished where the next token binds as tightly as the part that is read.
pub stuck : {w : Ast} {p : Part} {frames : List Frame} {levels : ℕ} {x : Ast} {ts : List Lexeme} → Completes w p frames levels x ts → rank p ≤ pull_of ts → ⊥
stuck (at_bottom c) h =
    let at = ap pull_of (still c (λ low. h)).1 in omega (arith, looser c)
stuck (in_chain {line = line} c l m) h =
    let s = ap pull_of (still c (λ low. h)).1 in
    let high = looser c in
    let low = rank-of_conditions line in
    let n = ap pull_of (no_links l (λ e. omega arith)).1 in
    stuck m (omega arith)
stuck (in_test c m) h =
    let s = ap pull_of (still c (λ low. h)).1 in
    stuck m (omega (arith, looser c))
stuck (in_calculation {line = line} c l m) h =
    let s = ap pull_of (still c (λ low. h)).1 in
    let high = looser c in
    let low = rank-of_numbers line in
    let n = ap pull_of (no_terms l (λ e. omega arith)).1 in
    stuck m (omega arith)
stuck (in_sign c m) h =
    let s = ap pull_of (still c (λ low. h)).1 in
    stuck m (omega (arith, looser c))
stuck (in_group c e m) h =
    let s = ap pull_of (still c (λ low. h)).1 in
    omega (arith, looser c, ap pull e)
stuck (in_call c a k m) h =
    let s = ap pull_of (still c (λ low. h)).1 in
    omega (arith, looser c, pull_of_arguments a)

-- an operand is to be read, and then these parts are to be finished
pub record Wants (w : Ast) (frames : List Frame) (levels : ℕ) (ts : List Lexeme) : Type 0 where
  pub tree : Ast
  pub rest : List Lexeme
  pub reads : Parses operand levels ts tree rest
  pub completes : Completes w operand frames levels tree rest
