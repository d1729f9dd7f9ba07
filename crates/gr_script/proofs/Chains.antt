-- A token that goes on with a chain: the chain that is begun, or a new one in it.
use Rattle.std.proofs.Common.{◌≡◌, ◌<◌, ◌≤◌, ℕ, List, [], ◌∷◌, ◌++◌, sym, ◌∙◌, ap, subst, append_assoc, inl, inr, ◌⊎◌, arith}
use Rattle.gr_ast.specs.declared.operators.Arith.{Arith}
use Rattle.gr_ast.specs.declared.ast.Ast.{Ast}
use Rattle.gr_ast.specs.declared.ast.Combined.{Combined}
use Rattle.gr_ast.specs.declared.operators.FieldOp.{FieldOp}
use Rattle.gr_ast.specs.declared.operators.Join.{Join}
use Rattle.gr_ast.specs.declared.ast.Joined.{Joined}
use Rattle.gr_script.specs.declared.frame.Frame.{Frame}
use Rattle.gr_script.specs.declared.frame.Frame.TheVariants.{Joining, Testing, Combining}
use Rattle.gr_script.specs.declared.grammar.After.TheVariants.{Joins, Tests, Combines}
use Rattle.gr_script.specs.declared.grammar.ConditionLine.{ConditionLine}
use Rattle.gr_script.specs.declared.grammar.NumberLine.{NumberLine}
use Rattle.gr_script.specs.declared.grammar.NumberLine.TheVariants.{Sum}
use Rattle.gr_script.specs.Grammar.{Part, conditions, numbers, operand, of_conditions, of_numbers, Parses, a_link, a_term}
use Rattle.gr_script.specs.Inside.Machine.{tightness, number_tightness, pull}
use Rattle.gr_script.specs.Token.{Lexeme}
use Rattle.gr_ast.specs.Trees.{link, term}
use Rattle.gr_script.specs.Trees.{chain_of, calculation_of}
use Rattle.gr_script.specs.Words.{after_of}
use Rattle.gr_script.proofs.Climb.{rank, pull_of, rank-of_conditions, rank-of_numbers, chained, compared, calculated, still, split, merge}
use Rattle.gr_script.proofs.Begun.{hole, Completes, in_chain, in_test, in_calculation, prepend, Settled, settle, stuck, Wants}
use Rattle.gr_script.proofs.Taken.{free, TakesLink, take_link, TakesTerm, take_term, Joined_by, joined_at, Tested_by, tested_at, Combined_by, combined_at}

module _ (w : Ast) (frames : List Frame) (levels : ℕ) (x : Ast) (t : Lexeme) (us : List Lexeme) where
  -- a new chain of conditions
  pub link_begins : (line : ConditionLine) (join : Join) (p : Part) → after_of t ≡ Joins line join → tightness line < rank p → rank (hole frames) ≤ tightness line → Completes w p frames levels x (t ∷ us) → Wants w (Joining line x [] join ∷ frames) levels us
  link_begins line join p e high low m = go (settle m)
    where
      go : Settled w p frames levels x (t ∷ us) → Wants w (Joining line x [] join ∷ frames) levels us
      go s = pick (joined_at s.climbs line join e high low)
        where
          pick : (s.rest ≡ t ∷ us) ⊎ Joined_by line join levels x us (hole frames) s.tree s.rest → Wants w (Joining line x [] join ∷ frames) levels us
          pick (inl same) = absurd (stuck s.completes (omega (arith, ap pull_of same, ap pull e)))
          pick (inr k) =
              let o = split k.reads in
              record { tree = o.0; rest = o.1; reads = o.2; completes = in_chain o.3 k.links_on (prepend k.climbs s.completes) }

  link_back : (line : ConditionLine) (join : Join) (p : Part) → after_of t ≡ Joins line join → tightness line < rank p → {o : Ast} {vs : List Lexeme} → Parses operand levels us o vs → Completes w operand (Joining line x [] join ∷ frames) levels o vs → Completes w p frames levels x (t ∷ us)
  link_back line join p e high r (in_chain c l m) =
      prepend (chained (free levels x (t ∷ us) p (of_conditions line) (omega (arith, rank-of_conditions line))) (a_link e (merge r c) l)) m

  pub link_begun : (line : ConditionLine) (join : Join) (p : Part) → after_of t ≡ Joins line join → tightness line < rank p → Wants w (Joining line x [] join ∷ frames) levels us → Completes w p frames levels x (t ∷ us)
  link_begun line join p e high m = link_back line join p e high m.reads m.completes

  -- what is begun
  pub link_extends : (line : ConditionLine) (join before : Join) (first : Ast) (links : List Joined) (p : Part) → after_of t ≡ Joins line join → tightness line < rank p → Completes w p (Joining line first links before ∷ frames) levels x (t ∷ us) → Wants w (Joining line first (links ++ (link before x ∷ [])) join ∷ frames) levels us
  link_extends line join before first links p e high (in_chain {y = y} {us = vs} {rest = rest} {more = more} c l m) = pick (take_link l s.1 e)
    where
      s : (y ≡ x) × (vs ≡ t ∷ us)
      s = still c (λ h. omega (arith, rank-of_conditions line, ap pull e))

      pick : ((more ≡ []) × (rest ≡ t ∷ us)) ⊎ TakesLink line join levels us more rest → Wants w (Joining line first (links ++ (link before x ∷ [])) join ∷ frames) levels us
      pick (inl n) = absurd (stuck m (omega (arith, ap pull_of n.1, ap pull e)))
      pick (inr k) =
          let o = split k.reads in
          let same : chain_of first (links ++ (link before y ∷ more)) ≡ chain_of first ((links ++ (link before x ∷ [])) ++ (link join k.of ∷ k.more)) =
          ap (λ z. chain_of first (links ++ (link before z ∷ more))) s.0 ∙ ap (λ ls. chain_of first (links ++ (link before x ∷ ls))) k.all ∙ ap (chain_of first) (sym (append_assoc links (link before x ∷ []) (link join k.of ∷ k.more))) in
          record { tree = o.0; rest = o.1; reads = o.2; completes = in_chain o.3 k.links_on (subst (λ tree. Completes w (conditions line) frames levels tree rest) same m) }

  extended_back : (line : ConditionLine) (join before : Join) (first : Ast) (links : List Joined) (p : Part) → after_of t ≡ Joins line join → tightness line < rank p → {o : Ast} {vs : List Lexeme} → Parses operand levels us o vs → Completes w operand (Joining line first (links ++ (link before x ∷ [])) join ∷ frames) levels o vs → Completes w p (Joining line first links before ∷ frames) levels x (t ∷ us)
  extended_back line join before first links p e high r (in_chain {y = y} {rest = rest} {more = more} c l m) =
      in_chain (free levels x (t ∷ us) p (of_conditions line) (omega (arith, rank-of_conditions line))) (a_link e (merge r c) l)
      (subst (λ ls. Completes w (conditions line) frames levels (chain_of first ls) rest) (append_assoc links (link before x ∷ []) (link join y ∷ more)) m)

  pub link_extended : (line : ConditionLine) (join before : Join) (first : Ast) (links : List Joined) (p : Part) → after_of t ≡ Joins line join → tightness line < rank p → Wants w (Joining line first (links ++ (link before x ∷ [])) join ∷ frames) levels us → Completes w p (Joining line first links before ∷ frames) levels x (t ∷ us)
  link_extended line join before first links p e high m = extended_back line join before first links p e high m.reads m.completes

  -- a comparison or a search
  pub test_begins : (test : FieldOp) (p : Part) → after_of t ≡ Tests test → 3 < rank p → rank (hole frames) ≤ 3 → Completes w p frames levels x (t ∷ us) → Wants w (Testing test x ∷ frames) levels us
  test_begins test p e high low m = go (settle m)
    where
      go : Settled w p frames levels x (t ∷ us) → Wants w (Testing test x ∷ frames) levels us
      go s = pick (tested_at s.climbs test e high low)
        where
          pick : (s.rest ≡ t ∷ us) ⊎ Tested_by test levels x us (hole frames) s.tree s.rest → Wants w (Testing test x ∷ frames) levels us
          pick (inl same) = absurd (stuck s.completes (omega (arith, ap pull_of same, ap pull e)))
          pick (inr k) =
              let o = split k.reads in
              record { tree = o.0; rest = o.1; reads = o.2; completes = in_test o.3 (prepend k.climbs s.completes) }

  test_back : (test : FieldOp) (p : Part) → after_of t ≡ Tests test → 3 < rank p → {o : Ast} {vs : List Lexeme} → Parses operand levels us o vs → Completes w operand (Testing test x ∷ frames) levels o vs → Completes w p frames levels x (t ∷ us)
  test_back test p e high r (in_test c m) =
      prepend (compared (free levels x (t ∷ us) p (numbers Sum) (omega arith)) e (merge r c)) m

  pub test_begun : (test : FieldOp) (p : Part) → after_of t ≡ Tests test → 3 < rank p → Wants w (Testing test x ∷ frames) levels us → Completes w p frames levels x (t ∷ us)
  test_begun test p e high m = test_back test p e high m.reads m.completes

  -- no comparison goes on with another one
  pub test_ends : (test before : FieldOp) (left : Ast) (p : Part) → after_of t ≡ Tests test → Completes w p (Testing before left ∷ frames) levels x (t ∷ us) → ⊥
  test_ends test before left p e (in_test c m) =
      let s = still c (λ h. omega (arith, ap pull e)) in
      stuck m (omega (arith, ap pull_of s.1, ap pull e))

  -- a new calculation
  pub term_begins : (line : NumberLine) (sign : Arith) (p : Part) → after_of t ≡ Combines line sign → number_tightness line < rank p → rank (hole frames) ≤ number_tightness line → Completes w p frames levels x (t ∷ us) → Wants w (Combining line x [] sign ∷ frames) levels us
  term_begins line sign p e high low m = go (settle m)
    where
      go : Settled w p frames levels x (t ∷ us) → Wants w (Combining line x [] sign ∷ frames) levels us
      go s = pick (combined_at s.climbs line sign e high low)
        where
          pick : (s.rest ≡ t ∷ us) ⊎ Combined_by line sign levels x us (hole frames) s.tree s.rest → Wants w (Combining line x [] sign ∷ frames) levels us
          pick (inl same) = absurd (stuck s.completes (omega (arith, ap pull_of same, ap pull e)))
          pick (inr k) =
              let o = split k.reads in
              record { tree = o.0; rest = o.1; reads = o.2; completes = in_calculation o.3 k.terms_on (prepend k.climbs s.completes) }

  term_back : (line : NumberLine) (sign : Arith) (p : Part) → after_of t ≡ Combines line sign → rank (of_numbers line) ≤ rank p → {o : Ast} {vs : List Lexeme} → Parses operand levels us o vs → Completes w operand (Combining line x [] sign ∷ frames) levels o vs → Completes w p frames levels x (t ∷ us)
  term_back line sign p e high r (in_calculation c l m) =
      prepend (calculated (free levels x (t ∷ us) p (of_numbers line) high) (a_term e (merge r c) l)) m

  pub term_begun : (line : NumberLine) (sign : Arith) (p : Part) → after_of t ≡ Combines line sign → rank (of_numbers line) ≤ rank p → Wants w (Combining line x [] sign ∷ frames) levels us → Completes w p frames levels x (t ∷ us)
  term_begun line sign p e high m = term_back line sign p e high m.reads m.completes

  -- what is begun
  pub term_extends : (line : NumberLine) (sign before : Arith) (first : Ast) (terms : List Combined) (p : Part) → after_of t ≡ Combines line sign → number_tightness line < rank p → Completes w p (Combining line first terms before ∷ frames) levels x (t ∷ us) → Wants w (Combining line first (terms ++ (term before x ∷ [])) sign ∷ frames) levels us
  term_extends line sign before first terms p e high (in_calculation {y = y} {us = vs} {rest = rest} {more = more} c l m) = pick (take_term l s.1 e)
    where
      s : (y ≡ x) × (vs ≡ t ∷ us)
      s = still c (λ h. omega (arith, rank-of_numbers line, ap pull e))

      pick : ((more ≡ []) × (rest ≡ t ∷ us)) ⊎ TakesTerm line sign levels us more rest → Wants w (Combining line first (terms ++ (term before x ∷ [])) sign ∷ frames) levels us
      pick (inl n) = absurd (stuck m (omega (arith, ap pull_of n.1, ap pull e)))
      pick (inr k) =
          let o = split k.reads in
          let same : calculation_of first (terms ++ (term before y ∷ more)) ≡ calculation_of first ((terms ++ (term before x ∷ [])) ++ (term sign k.of ∷ k.more)) =
          ap (λ z. calculation_of first (terms ++ (term before z ∷ more))) s.0 ∙ ap (λ ls. calculation_of first (terms ++ (term before x ∷ ls))) k.all ∙ ap (calculation_of first) (sym (append_assoc terms (term before x ∷ []) (term sign k.of ∷ k.more))) in
          record { tree = o.0; rest = o.1; reads = o.2; completes = in_calculation o.3 k.terms_on (subst (λ tree. Completes w (numbers line) frames levels tree rest) same m) }

  lengthened_back : (line : NumberLine) (sign before : Arith) (first : Ast) (terms : List Combined) (p : Part) → after_of t ≡ Combines line sign → rank (of_numbers line) ≤ rank p → {o : Ast} {vs : List Lexeme} → Parses operand levels us o vs → Completes w operand (Combining line first (terms ++ (term before x ∷ [])) sign ∷ frames) levels o vs → Completes w p (Combining line first terms before ∷ frames) levels x (t ∷ us)
  lengthened_back line sign before first terms p e high r (in_calculation {y = y} {rest = rest} {more = more} c l m) =
      in_calculation (free levels x (t ∷ us) p (of_numbers line) high) (a_term e (merge r c) l)
      (subst (λ ls. Completes w (numbers line) frames levels (calculation_of first ls) rest) (append_assoc terms (term before x ∷ []) (term sign y ∷ more)) m)

  pub term_extended : (line : NumberLine) (sign before : Arith) (first : Ast) (terms : List Combined) (p : Part) → after_of t ≡ Combines line sign → rank (of_numbers line) ≤ rank p → Wants w (Combining line first (terms ++ (term before x ∷ [])) sign ∷ frames) levels us → Completes w p (Combining line first terms before ∷ frames) levels x (t ∷ us)
  term_extended line sign before first terms p e high m = lengthened_back line sign before first terms p e high m.reads m.completes
