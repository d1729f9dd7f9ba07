-- Parts that bind an operand more tightly than what follows it are closed.
use Rattle.std.proofs.Common.{◌≡◌, ◌<◌, ◌≤◌, ℕ, suc, Bool, true, false, cond, nat_lt, List, [], ◌∷◌, ◌++◌, length, refl, sym, ◌∙◌, ap, subst, arith}
use Rattle.std.proofs.lemmas.Bool.{ltb-true, ltb-false}
use mathlib.Core.Path.{ap₂, subst₂}
use Rattle.gr_ast.specs.declared.ast.Ast.{Ast}
use Rattle.gr_ast.specs.declared.ast.Ast.TheVariants as ast
use Rattle.gr_ast.specs.declared.ast.Combined.{Combined}
use Rattle.gr_ast.specs.declared.ast.Joined.{Joined}
use Rattle.gr_ast.specs.declared.limits.TheConstants.{BETWEEN_ARGUMENTS}
use Rattle.gr_script.specs.declared.frame.Frame.{Frame}
use Rattle.gr_script.specs.declared.frame.Frame.TheVariants.{Joining, Testing, Combining, Signing, Grouping, Calling}
use Rattle.gr_script.specs.declared.grammar.Call.TheVariants.{Between}
use Rattle.gr_script.specs.Grammar.{Part, conditions, comparison, numbers, operand, no_link, no_term}
use Rattle.gr_script.specs.Inside.Machine.{hold, closed, released, reduced, Held}
use Rattle.gr_script.specs.Token.{Lexeme}
use Rattle.gr_ast.specs.Trees.{place_of, link, term}
use Rattle.gr_script.specs.Trees.{chain_of, calculation_of, tested, signed}
use Rattle.gr_script.proofs.Climb.{rank, pull_of, rank-of_conditions, rank-of_numbers, no_links, no_terms, still}
use Rattle.gr_script.proofs.Begun.{line_of, wanted, Completes, in_chain, in_test, in_calculation, in_sign, in_group, in_call}
use Rattle.gr_script.proofs.Taken.{free}

pub chain_filled : (first : Ast) (links : List Joined) (next : Joined) (more : List Joined) → chain_of first (links ++ (next ∷ more)) ≡ ast.Chain (place_of first) first (links ++ (next ∷ more))
chain_filled first [] next more = refl
chain_filled first (l ∷ links) next more = refl

pub calculation_filled : (first : Ast) (terms : List Combined) (next : Combined) (more : List Combined) → calculation_of first (terms ++ (next ∷ more)) ≡ ast.Calc (place_of first) first (terms ++ (next ∷ more))
calculation_filled first [] next more = refl
calculation_filled first (l ∷ terms) next more = refl

-- the begun part that binds more tightly is finished before the next token
pub close_frame : {w : Ast} {p : Part} {frame : Frame} {frames : List Frame} {levels : ℕ} {x : Ast} {ts : List Lexeme} → Completes w p (frame ∷ frames) levels x ts → pull_of ts < hold frame → Completes w (line_of frame) frames (released frame levels) (closed frame x) ts
close_frame {w} {x = x} (in_chain {line = line} {first = first} {links = links} {join = join} {frames = frames} {levels = levels} {y = y} {more = more} c l m) h =
    let s = still c (λ low. omega (arith, rank-of_conditions line)) in
    let at = ap pull_of s.1 in
    let n = no_links l (λ e. omega arith) in
    let same : chain_of first (links ++ (link join y ∷ more)) ≡ ast.Chain (place_of first) first (links ++ (link join x ∷ [])) =
    ap₂ (λ z ls. chain_of first (links ++ (link join z ∷ ls))) s.0 n.0 ∙ chain_filled first links (link join x) [] in
    subst₂ (λ tree rest. Completes w (conditions line) frames levels tree rest) same (n.1 ∙ s.1) m
close_frame {w} {x = x} (in_test {test = test} {left = left} {frames = frames} {levels = levels} c m) h =
    let s = still c (λ low. omega arith) in
    subst₂ (λ tree rest. Completes w comparison frames levels tree rest) (ap (tested test left) s.0) s.1 m
close_frame {w} {x = x} (in_calculation {line = line} {first = first} {terms = terms} {sign = sign} {frames = frames} {levels = levels} {y = y} {more = more} c l m) h =
    let s = still c (λ low. omega (arith, rank-of_numbers line)) in
    let at = ap pull_of s.1 in
    let n = no_terms l (λ e. omega arith) in
    let same : calculation_of first (terms ++ (term sign y ∷ more)) ≡ ast.Calc (place_of first) first (terms ++ (term sign x ∷ [])) =
    ap₂ (λ z ls. calculation_of first (terms ++ (term sign z ∷ ls))) s.0 n.0 ∙ calculation_filled first terms (term sign x) [] in
    subst₂ (λ tree rest. Completes w (numbers line) frames levels tree rest) same (n.1 ∙ s.1) m
close_frame {w} {x = x} (in_sign {sign = sign} {at = at} {frames = frames} {levels = levels} c m) h =
    let s = still c (λ low. omega arith) in
    subst₂ (λ tree rest. Completes w operand frames (suc levels) tree rest) (ap (signed sign at) s.0) s.1 m
close_frame (in_group c e m) h = absurd (omega arith)
close_frame (in_call c a k m) h = absurd (omega arith)

pub frame_closed : {w : Ast} {p : Part} (frame : Frame) {frames : List Frame} {levels : ℕ} {x : Ast} {ts : List Lexeme} → pull_of ts < hold frame → rank (wanted frame) ≤ rank p → Completes w (line_of frame) frames (released frame levels) (closed frame x) ts → Completes w p (frame ∷ frames) levels x ts
frame_closed {w} {p} (Joining line first links join) {frames} {levels} {x} {ts} h low m =
    in_chain (free levels x ts p _ low) no_link (subst (λ tree. Completes w (conditions line) frames levels tree ts) (sym (chain_filled first links (link join x) [])) m)
frame_closed {w} {p} (Testing test left) {frames} {levels} {x} {ts} h low m = in_test (free levels x ts p _ low) m
frame_closed {w} {p} (Combining line first terms sign) {frames} {levels} {x} {ts} h low m =
    in_calculation (free levels x ts p _ low) no_term (subst (λ tree. Completes w (numbers line) frames levels tree ts) (sym (calculation_filled first terms (term sign x) [])) m)
frame_closed {w} {p} (Signing sign at) {frames} {levels} {x} {ts} h low m = in_sign (free levels x ts p _ low) m
frame_closed Grouping h low m = absurd (omega arith)
frame_closed (Calling call at args) h low m = absurd (omega arith)

pub hold-line_of : (frame : Frame) → hold frame ≤ rank (line_of frame)
hold-line_of (Joining line first links join) = omega arith
hold-line_of (Testing test left) = omega arith
hold-line_of (Combining line first terms sign) = omega arith
hold-line_of (Signing sign at) = omega arith
hold-line_of Grouping = omega arith
hold-line_of (Calling call at args) = omega arith

-- an opened call may still be given an argument
abbrev pub HasRoom : Frame → Type 0
HasRoom (Calling Between at args) = length args < BETWEEN_ARGUMENTS
HasRoom _ = Unit {0}

-- begun parts that stand in each other as the grammar has them, with one of this part in the last
abbrev pub IsStack : Part → List Frame → Type 0
IsStack p [] = Unit {0}
IsStack p (frame ∷ frames) = (rank (wanted frame) ≤ rank p) × HasRoom frame × IsStack (line_of frame) frames

-- the last begun part binds no more tightly than this
abbrev pub Rests : ℕ → List Frame → Type 0
Rests pulled [] = Unit {0}
Rests pulled (frame ∷ frames) = hold frame ≤ pulled

-- begun parts that bind more tightly are closed, one after the other
pub data Reduces (pulled : ℕ) (q : Part) (y : Ast) (gs : List Frame) (left : ℕ) : Part → Ast → List Frame → ℕ → Type 0 where
  stops : Reduces pulled q y gs left q y gs left
  closes : {p : Part} {x : Ast} {frame : Frame} {frames : List Frame} {levels : ℕ} → pulled < hold frame → Reduces pulled q y gs left (line_of frame) (closed frame x) frames (released frame levels) → Reduces pulled q y gs left p x (frame ∷ frames) levels

pub record Reduced (pulled : ℕ) (p : Part) (x : Ast) (frames : List Frame) (levels : ℕ) (held : Held) : Type 0 where
  pub part : Part
  pub steps : Reduces pulled part held.tree held.frames held.left p x frames levels
  pub rests : Rests pulled held.frames

pub reducing : (pulled : ℕ) (p : Part) (x : Ast) (frames : List Frame) (levels : ℕ) → Reduced pulled p x frames levels (reduced pulled x frames levels)
reducing pulled p x [] levels = record { part = p; steps = stops; rests = tt }
reducing pulled p x (frame ∷ frames) levels = go (nat_lt pulled (hold frame)) refl (reducing pulled (line_of frame) (closed frame x) frames (released frame levels))
  where
    go : (b : Bool) → nat_lt pulled (hold frame) ≡ b → Reduced pulled (line_of frame) (closed frame x) frames (released frame levels) (reduced pulled (closed frame x) frames (released frame levels)) → Reduced pulled p x (frame ∷ frames) levels (cond b (reduced pulled (closed frame x) frames (released frame levels)) (record { tree = x; frames = frame ∷ frames; left = levels }))
    go true e r = record { part = r.part; steps = closes (ltb-true pulled (hold frame) e) r.steps; rests = r.rests }
    go false e r = record { part = p; steps = stops; rests = ltb-false pulled (hold frame) e }

pub reduces_to : {pulled : ℕ} {q : Part} {y : Ast} {gs : List Frame} {left : ℕ} {p : Part} {x : Ast} {frames : List Frame} {levels : ℕ} → Reduces pulled q y gs left p x frames levels → {w : Ast} {ts : List Lexeme} → pull_of ts ≡ pulled → Completes w p frames levels x ts → Completes w q gs left y ts
reduces_to stops e m = m
reduces_to (closes h r) e m = reduces_to r e (close_frame m (omega arith))

pub reduces_from : {pulled : ℕ} {q : Part} {y : Ast} {gs : List Frame} {left : ℕ} {p : Part} {x : Ast} {frames : List Frame} {levels : ℕ} → Reduces pulled q y gs left p x frames levels → {w : Ast} {ts : List Lexeme} → pull_of ts ≡ pulled → IsStack p frames → Completes w q gs left y ts → Completes w p frames levels x ts
reduces_from stops e s m = m
reduces_from (closes {frame = frame} h r) e s m = frame_closed frame (omega arith) s.0 (reduces_from r e s.2 m)

pub reduces_rank : {pulled : ℕ} {q : Part} {y : Ast} {gs : List Frame} {left : ℕ} {p : Part} {x : Ast} {frames : List Frame} {levels : ℕ} → Reduces pulled q y gs left p x frames levels → pulled < rank p → pulled < rank q
reduces_rank stops h = h
reduces_rank (closes {frame = frame} l r) h = reduces_rank r (omega (arith, hold-line_of frame))

pub reduces_stack : {pulled : ℕ} {q : Part} {y : Ast} {gs : List Frame} {left : ℕ} {p : Part} {x : Ast} {frames : List Frame} {levels : ℕ} → Reduces pulled q y gs left p x frames levels → IsStack p frames → IsStack q gs
reduces_stack stops s = s
reduces_stack (closes h r) s = reduces_stack r s.2
