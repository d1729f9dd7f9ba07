-- A step of the reader goes exactly where the grammar goes on.
use Rattle.std.proofs.Common.{◌≡◌, ◌<◌, ◌≤◌, ℕ, zero, suc, Bool, true, false, cond, List, [], ◌∷◌, ◌++◌, length, length-append, append_assoc, refl, sym, ◌∙◌, ap, subst, arith}
use Rattle.std.proofs.lemmas.Bool.{lt-ltb, eqb-true}
use mathlib.Core.Path.{subst₂}
use Rattle.gr_ast.specs.declared.operators.Arith.{Arith}
use Rattle.gr_ast.specs.declared.ast.Ast.{Ast}
use Rattle.gr_ast.specs.declared.limits.TheConstants.{BETWEEN_ARGUMENTS}
use Rattle.gr_ast.specs.declared.operators.FieldOp.{FieldOp}
use Rattle.gr_ast.specs.declared.operators.Join.{Join}
use Rattle.gr_script.specs.declared.frame.Frame.{Frame}
use Rattle.gr_script.specs.declared.frame.Frame.TheVariants.{Joining, Testing, Combining, Signing, Grouping, Calling}
use Rattle.gr_script.specs.declared.grammar.After.{After}
use Rattle.gr_script.specs.declared.grammar.After.TheVariants as after
use Rattle.gr_script.specs.declared.grammar.Call.{Call}
use Rattle.gr_script.specs.declared.grammar.Call.TheVariants.{Between, InValues}
use Rattle.gr_script.specs.declared.grammar.ConditionLine.{ConditionLine}
use Rattle.gr_script.specs.declared.grammar.ConditionLine.TheVariants.{Any, All}
use Rattle.gr_script.specs.declared.grammar.NumberLine.{NumberLine}
use Rattle.gr_script.specs.declared.grammar.NumberLine.TheVariants.{Sum, Product}
use Rattle.gr_script.specs.declared.grammar.Sign.{Sign}
use Rattle.gr_script.specs.declared.grammar.Start.{Start}
use Rattle.gr_script.specs.declared.grammar.Start.TheVariants as start
use Rattle.gr_script.specs.Grammar.{Part, conditions, comparison, numbers, operand, script, Parses, a_leaf, a_sign, a_group, a_call, Arguments, no_argument, an_argument, of_numbers}
use Rattle.gr_script.specs.Inside.Machine.{tightness, number_tightness, pull, Held, reduced, join_on, test_on, combine_on, close_on, takes_more, separate_on, follows, begun, step, Phase, Want, Opening, Have, State, state}
use Rattle.gr_script.specs.Token.{Lexeme}
use Rattle.gr_script.specs.Trees.{called, takes}
use Rattle.gr_script.specs.Words.{start_of, after_of, opens}
use Rattle.gr_text.proofs.Cases.{false_is, head_is, tail_is, empty_is}
use Rattle.gr_script.proofs.Climb.{rank, tightness_below, tightness_above, here, still, split, merge, rank-of_numbers}
use Rattle.gr_script.proofs.Taken.{free}
use Rattle.gr_script.proofs.Begun.{hole, Completes, at_bottom, in_chain, in_test, in_calculation, in_sign, in_group, in_call, Wants}
use Rattle.gr_script.proofs.Chains.{link_begins, link_begun, link_extends, link_extended, test_begins, test_begun, test_ends, term_begins, term_begun, term_extends, term_extended}
use Rattle.gr_script.proofs.Closing.{IsStack, Rests, reducing, reduces_to, reduces_from, reduces_rank}
use Rattle.gr_text.specs.Inside.Reading.{Outcome, goes, deep, wrong}

-- the bracket that opens a call's arguments comes next
abbrev pub Opens : Ast → List Frame → ℕ → List Lexeme → Type 0
Opens w frames levels [] = ⊥
Opens w frames levels (t ∷ ts) = (opens t.token ≡ true) × Wants w frames levels ts

-- these tokens finish the script, from here
abbrev pub Goes : Ast → Phase → List Frame → ℕ → List Lexeme → Type 0
Goes w Want frames levels ts = Wants w frames levels ts
Goes w Opening frames levels ts = Opens w frames levels ts
Goes w (Have x) frames levels ts = Completes w operand frames levels x ts

abbrev pub GoesOn : Ast → Outcome State → List Lexeme → Type 0
GoesOn w (goes (state phase frames levels)) ts = Goes w phase frames levels ts
GoesOn w deep ts = ⊥
GoesOn w wrong ts = ⊥

-- no chain of this line is the last begun part
abbrev pub NoChain : ConditionLine → List Frame → Type 0
NoChain Any (Joining Any first links join ∷ frames) = ⊥
NoChain All (Joining All first links join ∷ frames) = ⊥
NoChain line frames = Unit {0}

pub loose_hole : (line : ConditionLine) (frames : List Frame) → NoChain line frames → Rests (tightness line) frames → rank (hole frames) ≤ tightness line
loose_hole Any (Joining Any first links join ∷ frames) n r = absurd n
loose_hole All (Joining All first links join ∷ frames) n r = absurd n
loose_hole Any (Combining over first terms sign ∷ frames) n r = absurd (omega (arith, tightness_above over))
loose_hole All (Combining over first terms sign ∷ frames) n r = absurd (omega (arith, tightness_above over))
loose_hole line frames n r = omega arith

abbrev pub NoTest : List Frame → Type 0
NoTest (Testing test left ∷ frames) = ⊥
NoTest frames = Unit {0}

pub loose_test_hole : (frames : List Frame) → NoTest frames → Rests 3 frames → rank (hole frames) ≤ 3
loose_test_hole (Testing test left ∷ frames) n r = absurd n
loose_test_hole (Joining Any first links join ∷ frames) n r = omega arith
loose_test_hole (Joining All first links join ∷ frames) n r = omega arith
loose_test_hole (Combining over first terms sign ∷ frames) n r = absurd (omega (arith, tightness_above over))
loose_test_hole frames n r = omega arith

abbrev pub NoCalculation : NumberLine → List Frame → Type 0
NoCalculation Sum (Combining Sum first terms sign ∷ frames) = ⊥
NoCalculation Product (Combining Product first terms sign ∷ frames) = ⊥
NoCalculation line frames = Unit {0}

pub loose_number_hole : (line : NumberLine) (frames : List Frame) → NoCalculation line frames → Rests (number_tightness line) frames → rank (hole frames) ≤ number_tightness line
loose_number_hole Sum (Combining Sum first terms sign ∷ frames) n r = absurd n
loose_number_hole Product (Combining Product first terms sign ∷ frames) n r = absurd n
loose_number_hole line (Joining Any first links join ∷ frames) n r = omega (arith, tightness_above line)
loose_number_hole line (Joining All first links join ∷ frames) n r = omega (arith, tightness_above line)
loose_number_hole Sum frames n r = omega arith
loose_number_hole Product frames n r = omega arith

module _ (w : Ast) (levels : ℕ) (x : Ast) (t : Lexeme) (us : List Lexeme) (p : Part) where
  join_to : (line : ConditionLine) (join : Join) (frames : List Frame) → after_of t ≡ after.Joins line join → Rests (tightness line) frames → tightness line < rank p → Completes w p frames levels x (t ∷ us) → GoesOn w (join_on line join x frames levels) us
  join_to Any join (Joining Any first links before ∷ frames) e r high m = link_extends w frames levels x t us Any join before first links p e high m
  join_to All join (Joining All first links before ∷ frames) e r high m = link_extends w frames levels x t us All join before first links p e high m
  join_to line join frames e r high m = link_begins w frames levels x t us line join p e high (loose_hole line frames tt r) m

  join_from : (line : ConditionLine) (join : Join) (frames : List Frame) → after_of t ≡ after.Joins line join → tightness line < rank p → GoesOn w (join_on line join x frames levels) us → Completes w p frames levels x (t ∷ us)
  join_from Any join (Joining Any first links before ∷ frames) e high m = link_extended w frames levels x t us Any join before first links p e high m
  join_from All join (Joining All first links before ∷ frames) e high m = link_extended w frames levels x t us All join before first links p e high m
  join_from line join frames e high m = link_begun w frames levels x t us line join p e high m

  test_to : (test : FieldOp) (frames : List Frame) → after_of t ≡ after.Tests test → Rests 3 frames → 3 < rank p → Completes w p frames levels x (t ∷ us) → GoesOn w (test_on test x frames levels) us
  test_to test (Testing before left ∷ frames) e r high m = test_ends w frames levels x t us test before left p e m
  test_to test frames e r high m = test_begins w frames levels x t us test p e high (loose_test_hole frames tt r) m

  test_from : (test : FieldOp) (frames : List Frame) → after_of t ≡ after.Tests test → 3 < rank p → GoesOn w (test_on test x frames levels) us → Completes w p frames levels x (t ∷ us)
  test_from test (Testing before left ∷ frames) e high m = absurd m
  test_from test frames e high m = test_begun w frames levels x t us test p e high m

  number_to : (line : NumberLine) (sign : Arith) (frames : List Frame) → after_of t ≡ after.Combines line sign → Rests (number_tightness line) frames → number_tightness line < rank p → Completes w p frames levels x (t ∷ us) → GoesOn w (combine_on line sign x frames levels) us
  number_to Sum sign (Combining Sum first terms before ∷ frames) e r high m = term_extends w frames levels x t us Sum sign before first terms p e high m
  number_to Product sign (Combining Product first terms before ∷ frames) e r high m = term_extends w frames levels x t us Product sign before first terms p e high m
  number_to line sign frames e r high m = term_begins w frames levels x t us line sign p e high (loose_number_hole line frames tt r) m

  number_from : (line : NumberLine) (sign : Arith) (frames : List Frame) → after_of t ≡ after.Combines line sign → rank (of_numbers line) ≤ rank p → GoesOn w (combine_on line sign x frames levels) us → Completes w p frames levels x (t ∷ us)
  number_from Sum sign (Combining Sum first terms before ∷ frames) e high m = term_extended w frames levels x t us Sum sign before first terms p e high m
  number_from Product sign (Combining Product first terms before ∷ frames) e high m = term_extended w frames levels x t us Product sign before first terms p e high m
  number_from line sign frames e high m = term_begun w frames levels x t us line sign p e high m

pub loose_line : (line : ConditionLine) → 1 ≤ tightness line
loose_line Any = omega arith
loose_line All = omega arith

pub rank_pos : (p : Part) → 1 ≤ rank p
rank_pos (conditions line) = loose_line line
rank_pos comparison = omega arith
rank_pos (numbers line) = omega (arith, tightness_above line)
rank_pos operand = omega arith

-- a call that takes two more takes one more
more_room : (call : Call) (count few : ℕ) → takes call count ≡ true → suc (suc few) ≤ count → takes_more call (suc few) ≡ true
more_room Between count few k h = lt-ltb (suc few) BETWEEN_ARGUMENTS (omega (arith, eqb-true count BETWEEN_ARGUMENTS k))
more_room InValues count few k h = refl

-- a token that binds nothing, behind an operand whose tighter parts are closed
module _ {w : Ast} {levels : ℕ} {x : Ast} {t : Lexeme} {us : List Lexeme} {p : Part} where
  close_to : {frames : List Frame} → Completes w p frames levels x (t ∷ us) → after_of t ≡ after.Closes → Rests 0 frames → GoesOn w (close_on x frames levels) us
  close_to (at_bottom c) e r = empty_is (still c (λ h. omega (arith, ap pull e))).1
  close_to (in_chain {line = line} c l m) e r = absurd (omega (arith, loose_line line))
  close_to (in_test c m) e r = absurd (omega arith)
  close_to (in_calculation {line = line} c l m) e r = absurd (omega (arith, tightness_above line))
  close_to (in_sign c m) e r = absurd (omega arith)
  close_to (in_group {frames = frames} {y = y} c k m) e r =
      let s = still c (λ h. omega (arith, ap pull e)) in
      subst₂ (λ tree rest. Completes w operand frames (suc levels) tree rest) s.0 (tail_is s.1) m
  close_to (in_call {call = call} {at = at} {args = args} {frames = frames} {y = y} {us = vs} {rest = rest} {more = more} c a k m) e r = ended a s.1 k m
    where
      s : (y ≡ x) × (vs ≡ t ∷ us)
      s = still c (λ h. omega (arith, ap pull e))

      separate : after.Closes ≡ after.Separates → ⊥
      separate h = cc

      ended : {vs rest : List Lexeme} {more : List Ast} → Arguments levels vs more rest → vs ≡ t ∷ us → takes call (length (args ++ (y ∷ more))) ≡ true → Completes w operand frames (suc levels) (called call at (args ++ (y ∷ more))) rest → GoesOn w (cond (takes call (suc (length args))) (goes (state (Have (called call at (args ++ (x ∷ [])))) frames (suc levels))) wrong) us
      ended (no_argument h) same k m =
          let count : length (args ++ (y ∷ [])) ≡ suc (length args) = omega (arith, length-append args (y ∷ [])) in
          let taken : takes call (suc (length args)) ≡ true = sym (ap (takes call) count) ∙ k in
          subst (λ b. GoesOn w (cond b (goes (state (Have (called call at (args ++ (x ∷ [])))) frames (suc levels))) wrong) us) (sym taken)
          (subst₂ (λ tree rest. Completes w operand frames (suc levels) tree rest) (ap (λ z. called call at (args ++ (z ∷ []))) s.0) (tail_is same) m)
      ended (an_argument h o a) same k m = absurd (separate (sym e ∙ sym (ap after_of (head_is same)) ∙ h))

  separate_to : {frames : List Frame} → Completes w p frames levels x (t ∷ us) → after_of t ≡ after.Separates → Rests 0 frames → GoesOn w (separate_on x frames levels) us
  separate_to (at_bottom c) e r = empty_is (still c (λ h. omega (arith, ap pull e))).1
  separate_to (in_chain {line = line} c l m) e r = absurd (omega (arith, loose_line line))
  separate_to (in_test c m) e r = absurd (omega arith)
  separate_to (in_calculation {line = line} c l m) e r = absurd (omega (arith, tightness_above line))
  separate_to (in_sign c m) e r = absurd (omega arith)
  separate_to (in_group {y = y} {t = u} {us = vs} c k m) e r = close (sym e ∙ sym (ap after_of (head_is s.1)) ∙ k)
    where
      s : (y ≡ x) × (u ∷ vs ≡ t ∷ us)
      s = still c (λ h. omega (arith, ap pull e))

      close : after.Separates ≡ after.Closes → ⊥
      close h = cc
  separate_to (in_call {call = call} {at = at} {args = args} {frames = frames} {y = y} {us = vs} {rest = rest} {more = more} c a k m) e r = goes_on a s.1 k m
    where
      s : (y ≡ x) × (vs ≡ t ∷ us)
      s = still c (λ h. omega (arith, ap pull e))

      close : after.Separates ≡ after.Closes → ⊥
      close h = cc

      next : Outcome State
      next = goes (state Want (Calling call at (args ++ (x ∷ [])) ∷ frames) levels)

      goes_on : {vs rest : List Lexeme} {more : List Ast} → Arguments levels vs more rest → vs ≡ t ∷ us → takes call (length (args ++ (y ∷ more))) ≡ true → Completes w operand frames (suc levels) (called call at (args ++ (y ∷ more))) rest → GoesOn w (cond (takes_more call (suc (length args))) next wrong) us
      goes_on (no_argument h) same k m = absurd (close (sym e ∙ sym (ap after_of (head_is same)) ∙ h))
      goes_on {rest = rest} (an_argument {us = after} {tree = tree} {more = more} h o a) same k m =
          let count = length-append args (y ∷ tree ∷ more) in
          let room : takes_more call (suc (length args)) ≡ true = more_room call _ (length args) k (omega arith) in
          let begin = split (subst (λ v. Parses script levels v tree after) (tail_is same) o) in
          let list : args ++ (y ∷ tree ∷ more) ≡ (args ++ (x ∷ [])) ++ (tree ∷ more) = ap (λ z. args ++ (z ∷ tree ∷ more)) s.0 ∙ sym (append_assoc args (x ∷ []) (tree ∷ more)) in
          subst (λ b. GoesOn w (cond b next wrong) us) (sym room)
          (record { tree = begin.0; rest = begin.1; reads = begin.2; completes = in_call begin.3 a (sym (ap (λ xs. takes call (length xs)) list) ∙ k) (subst (λ xs. Completes w operand frames (suc levels) (called call at xs) rest) list m) })

  nothing_to : {frames : List Frame} → Completes w p frames levels x (t ∷ us) → after_of t ≡ after.Nothing → Rests 0 frames → ⊥
  nothing_to (at_bottom c) e r = empty_is (still c (λ h. omega (arith, ap pull e))).1
  nothing_to (in_chain {line = line} c l m) e r = omega (arith, loose_line line)
  nothing_to (in_test c m) e r = omega arith
  nothing_to (in_calculation {line = line} c l m) e r = omega (arith, tightness_above line)
  nothing_to (in_sign c m) e r = omega arith
  nothing_to (in_group {y = y} {t = u} {us = vs} c k m) e r = close (sym e ∙ sym (ap after_of (head_is s.1)) ∙ k)
    where
      s : (y ≡ x) × (u ∷ vs ≡ t ∷ us)
      s = still c (λ h. omega (arith, ap pull e))

      close : after.Nothing ≡ after.Closes → ⊥
      close h = cc
  nothing_to (in_call {y = y} {us = vs} c a k m) e r = none a s.1
    where
      s : (y ≡ x) × (vs ≡ t ∷ us)
      s = still c (λ h. omega (arith, ap pull e))

      close : after.Nothing ≡ after.Closes → ⊥
      close h = cc

      separate : after.Nothing ≡ after.Separates → ⊥
      separate h = cc

      none : {vs rest : List Lexeme} {more : List Ast} → Arguments levels vs more rest → vs ≡ t ∷ us → ⊥
      none (no_argument h) same = close (sym e ∙ sym (ap after_of (head_is same)) ∙ h)
      none (an_argument h o a) same = separate (sym e ∙ sym (ap after_of (head_is same)) ∙ h)

  close_from : (frames : List Frame) → after_of t ≡ after.Closes → GoesOn w (close_on x frames levels) us → Completes w p frames levels x (t ∷ us)
  close_from (Grouping ∷ frames) e m = in_group (free levels x (t ∷ us) p script (rank_pos p)) e m
  close_from (Calling call at args ∷ frames) e m = pick (takes call (suc (length args))) refl m
    where
      pick : (b : Bool) → takes call (suc (length args)) ≡ b → GoesOn w (cond b (goes (state (Have (called call at (args ++ (x ∷ [])))) frames (suc levels))) wrong) us → Completes w p (Calling call at args ∷ frames) levels x (t ∷ us)
      pick true k m =
          let count : length (args ++ (x ∷ [])) ≡ suc (length args) = omega (arith, length-append args (x ∷ [])) in
          in_call (free levels x (t ∷ us) p script (rank_pos p)) (no_argument e) (ap (takes call) count ∙ k) m
      pick false k m = absurd m
  close_from frames e m = absurd m

  separate_from : (frames : List Frame) → after_of t ≡ after.Separates → GoesOn w (separate_on x frames levels) us → Completes w p frames levels x (t ∷ us)
  separate_from (Calling call at args ∷ frames) e m = pick (takes_more call (suc (length args))) m
    where
      back : {o : Ast} {vs : List Lexeme} → Parses operand levels us o vs → Completes w operand (Calling call at (args ++ (x ∷ [])) ∷ frames) levels o vs → Completes w p (Calling call at args ∷ frames) levels x (t ∷ us)
      back r (in_call {y = y} {rest = rest} {more = more} c a k m) =
          let list : (args ++ (x ∷ [])) ++ (y ∷ more) ≡ args ++ (x ∷ y ∷ more) = append_assoc args (x ∷ []) (y ∷ more) in
          in_call (free levels x (t ∷ us) p script (rank_pos p)) (an_argument e (merge r c) a) (sym (ap (λ xs. takes call (length xs)) list) ∙ k) (subst (λ xs. Completes w operand frames (suc levels) (called call at xs) rest) list m)

      pick : (b : Bool) → GoesOn w (cond b (goes (state Want (Calling call at (args ++ (x ∷ [])) ∷ frames) levels)) wrong) us → Completes w p (Calling call at args ∷ frames) levels x (t ∷ us)
      pick true m = back m.reads m.completes
      pick false m = absurd m
  separate_from frames e m = absurd m

pub pull_below : (a : After) → pull a < 6
pull_below after.Closes = omega arith
pull_below after.Separates = omega arith
pull_below (after.Joins line join) = omega (arith, tightness_below line)
pull_below (after.Tests test) = omega arith
pull_below (after.Combines Sum sign) = omega arith
pull_below (after.Combines Product sign) = omega arith
pull_below after.Nothing = omega arith

module _ (w : Ast) (t : Lexeme) (us : List Lexeme) (p : Part) (held : Held) where
  placed_to : (a : After) → after_of t ≡ a → Rests (pull a) held.frames → pull a < rank p → Completes w p held.frames held.left held.tree (t ∷ us) → GoesOn w (follows a held) us
  placed_to after.Closes e r h m = close_to m e r
  placed_to after.Separates e r h m = separate_to m e r
  placed_to (after.Joins line join) e r h m = join_to w held.left held.tree t us p line join held.frames e r h m
  placed_to (after.Tests test) e r h m = test_to w held.left held.tree t us p test held.frames e r h m
  placed_to (after.Combines line sign) e r h m = number_to w held.left held.tree t us p line sign held.frames e r h m
  placed_to after.Nothing e r h m = nothing_to m e r

  placed_from : (a : After) → after_of t ≡ a → pull a < rank p → GoesOn w (follows a held) us → Completes w p held.frames held.left held.tree (t ∷ us)
  placed_from after.Closes e h m = close_from held.frames e m
  placed_from after.Separates e h m = separate_from held.frames e m
  placed_from (after.Joins line join) e h m = join_from w held.left held.tree t us p line join held.frames e h m
  placed_from (after.Tests test) e h m = test_from w held.left held.tree t us p test held.frames e h m
  placed_from (after.Combines line sign) e h m = number_from w held.left held.tree t us p line sign held.frames e (omega (arith, rank-of_numbers line)) m
  placed_from after.Nothing e h m = absurd m

module _ (w : Ast) (frames : List Frame) (levels : ℕ) (t : Lexeme) (us : List Lexeme) where
  have_to : (x : Ast) → Completes w operand frames levels x (t ∷ us) → GoesOn w (step (Have x) frames levels t) us
  have_to x m =
      let r = reducing (pull (after_of t)) operand x frames levels in
      placed_to w t us r.part (reduced (pull (after_of t)) x frames levels) (after_of t) refl r.rests (reduces_rank r.steps (pull_below (after_of t))) (reduces_to r.steps refl m)

  have_from : (x : Ast) → IsStack operand frames → GoesOn w (step (Have x) frames levels t) us → Completes w operand frames levels x (t ∷ us)
  have_from x s m =
      let r = reducing (pull (after_of t)) operand x frames levels in
      reduces_from r.steps refl s (placed_from w t us r.part (reduced (pull (after_of t)) x frames levels) (after_of t) refl (reduces_rank r.steps (pull_below (after_of t))) m)

want_to : {w : Ast} {frames : List Frame} {levels : ℕ} {t : Lexeme} {ts us : List Lexeme} {x : Ast} → Parses operand levels (t ∷ ts) x us → Completes w operand frames levels x us → GoesOn w (begun (start_of t) t.at frames levels) ts
want_to {w} {frames} {levels} {t} {ts} (a_leaf e) m = subst (λ s. GoesOn w (begun s t.at frames levels) ts) (sym e) m
want_to {w} {frames} {t = t} {ts = ts} (a_sign {levels = levels} {rest = rest} {of = of} e r) m =
    subst (λ s. GoesOn w (begun s t.at frames (suc levels)) ts) (sym e) (record { tree = of; rest = rest; reads = r; completes = in_sign here m })
want_to {w} {frames} {t = t} {ts = ts} (a_group {levels = levels} e r c) m =
    let o = split r in
    subst (λ s. GoesOn w (begun s t.at frames (suc levels)) ts) (sym e) (record { tree = o.0; rest = o.1; reads = o.2; completes = in_group o.3 c m })
want_to {w} {frames} {t = t} (a_call {levels = levels} {u = u} {ts = ts} e o r a k) m =
    let b = split r in
    subst (λ s. GoesOn w (begun s t.at frames (suc levels)) (u ∷ ts)) (sym e) (o, record { tree = b.0; rest = b.1; reads = b.2; completes = in_call b.3 a k m })

module _ {w : Ast} {frames : List Frame} {levels : ℕ} {t : Lexeme} where
  sign_from : {sign : Sign} {ts us : List Lexeme} {x : Ast} → start_of t ≡ start.Signed sign → Parses operand levels ts x us → Completes w operand (Signing sign t.at ∷ frames) levels x us → Wants w frames (suc levels) (t ∷ ts)
  sign_from e r (in_sign c m) = record { tree = _; rest = _; reads = a_sign e (merge r c); completes = m }

  group_from : {ts us : List Lexeme} {x : Ast} → start_of t ≡ start.Grouped → Parses operand levels ts x us → Completes w operand (Grouping ∷ frames) levels x us → Wants w frames (suc levels) (t ∷ ts)
  group_from e r (in_group c k m) = record { tree = _; rest = _; reads = a_group e (merge r c) k; completes = m }

  call_from : {call : Call} {u : Lexeme} {ts us : List Lexeme} {x : Ast} → start_of t ≡ start.Called call → opens u.token ≡ true → Parses operand levels ts x us → Completes w operand (Calling call t.at [] ∷ frames) levels x us → Wants w frames (suc levels) (t ∷ u ∷ ts)
  call_from e o r (in_call c a k m) = record { tree = _; rest = _; reads = a_call e o (merge r c) a k; completes = m }

want_from : (w : Ast) (frames : List Frame) (levels : ℕ) (t : Lexeme) (ts : List Lexeme) (s : Start) → start_of t ≡ s → GoesOn w (begun s t.at frames levels) ts → Wants w frames levels (t ∷ ts)
want_from w frames levels t ts (start.Leaf tree) e m = record { tree = tree; rest = ts; reads = a_leaf e; completes = m }
want_from w frames zero t ts (start.Signed sign) e m = absurd m
want_from w frames (suc levels) t ts (start.Signed sign) e m = sign_from e m.reads m.completes
want_from w frames zero t ts start.Grouped e m = absurd m
want_from w frames (suc levels) t ts start.Grouped e m = group_from e m.reads m.completes
want_from w frames zero t ts (start.Called call) e m = absurd m
want_from w frames (suc levels) t [] (start.Called call) e m = absurd m
want_from w frames (suc levels) t (u ∷ ts) (start.Called call) e m = call_from e m.0 (m.1).reads (m.1).completes
want_from w frames levels t ts start.Nothing e m = absurd m

opening_to : (w : Ast) (o : Outcome State) (ts : List Lexeme) (b : Bool) → b ≡ true → GoesOn w o ts → GoesOn w (cond b o wrong) ts
opening_to w o ts true e m = m
opening_to w o ts false e m = absurd (false_is e)

opening_from : (w : Ast) (o : Outcome State) (ts : List Lexeme) (b : Bool) → GoesOn w (cond b o wrong) ts → (b ≡ true) × GoesOn w o ts
opening_from w o ts true m = (refl, m)
opening_from w o ts false m = absurd m

-- what finishes the script with this token first finishes it behind the step
pub step_to : (w : Ast) (phase : Phase) (frames : List Frame) (levels : ℕ) (t : Lexeme) (ts : List Lexeme) → Goes w phase frames levels (t ∷ ts) → GoesOn w (step phase frames levels t) ts
step_to w Want frames levels t ts m = want_to m.reads m.completes
step_to w Opening frames levels t ts m = opening_to w (goes (state Want frames levels)) ts (opens t.token) m.0 m.1
step_to w (Have x) frames levels t ts m = have_to w frames levels t ts x m

pub step_from : (w : Ast) (phase : Phase) (frames : List Frame) (levels : ℕ) (t : Lexeme) (ts : List Lexeme) → IsStack operand frames → GoesOn w (step phase frames levels t) ts → Goes w phase frames levels (t ∷ ts)
step_from w Want frames levels t ts s m = want_from w frames levels t ts (start_of t) refl m
step_from w Opening frames levels t ts s m = opening_from w (goes (state Want frames levels)) ts (opens t.token) m
step_from w (Have x) frames levels t ts s m = have_from w frames levels t ts x s m
