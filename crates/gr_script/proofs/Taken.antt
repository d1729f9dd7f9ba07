-- Where a token between two parts is read, and how an operand stands for a looser part.
use Rattle.std.proofs.Common.{◌≡◌, ◌<◌, ◌≤◌, ℕ, List, [], ◌∷◌, refl, sym, ◌∙◌, ap, subst, inl, inr, arith, ◌⊎◌}
use mathlib.Core.Path.{ap₂}
use Rattle.gr_ast.specs.declared.operators.Arith.{Arith}
use Rattle.gr_ast.specs.declared.ast.Ast.{Ast}
use Rattle.gr_ast.specs.declared.ast.Combined.{Combined}
use Rattle.gr_ast.specs.declared.operators.FieldOp.{FieldOp}
use Rattle.gr_ast.specs.declared.operators.Join.{Join}
use Rattle.gr_ast.specs.declared.ast.Joined.{Joined}
use Rattle.gr_script.specs.declared.grammar.After.TheVariants.{Joins, Tests, Combines}
use Rattle.gr_script.specs.declared.grammar.ConditionLine.{ConditionLine}
use Rattle.gr_script.specs.declared.grammar.ConditionLine.TheVariants.{Any, All}
use Rattle.gr_script.specs.declared.grammar.NumberLine.{NumberLine}
use Rattle.gr_script.specs.declared.grammar.NumberLine.TheVariants.{Sum, Product}
use Rattle.gr_script.specs.Grammar.{Part, conditions, comparison, numbers, operand, of_conditions, of_numbers, Parses, Links, no_link, a_link, Terms, no_term, a_term}
use Rattle.gr_script.specs.Inside.Machine.{tightness, number_tightness, pull}
use Rattle.gr_script.specs.Token.{Lexeme}
use Rattle.gr_ast.specs.Trees.{link, term}
use Rattle.gr_script.specs.Trees.{chain_of, calculation_of, tested}
use Rattle.gr_script.specs.Words.{after_of}
use Rattle.gr_text.proofs.Cases.{head_is, tail_is}
use Rattle.gr_script.proofs.Climb.{rank, pull_of, tightness_below, tightness_above, Climbs, here, chained, numbered, compared, calculated, no_links, no_terms, still}

module _ (levels : ℕ) (x : Ast) (ts : List Lexeme) where
  free_operand : (p : Part) → 6 ≤ rank p → Climbs p levels x ts operand x ts
  free_operand (conditions line) h = absurd (omega (arith, tightness_below line))
  free_operand comparison h = absurd (omega arith)
  free_operand (numbers Sum) h = absurd (omega arith)
  free_operand (numbers Product) h = absurd (omega arith)
  free_operand operand h = here

  free_product : (p : Part) → 5 ≤ rank p → Climbs p levels x ts (numbers Product) x ts
  free_product (conditions line) h = absurd (omega (arith, tightness_below line))
  free_product comparison h = absurd (omega arith)
  free_product (numbers Sum) h = absurd (omega arith)
  free_product (numbers Product) h = here
  free_product operand h = calculated here no_term

  free_sum : (p : Part) → 4 ≤ rank p → Climbs p levels x ts (numbers Sum) x ts
  free_sum (conditions line) h = absurd (omega (arith, tightness_below line))
  free_sum comparison h = absurd (omega arith)
  free_sum (numbers Sum) h = here
  free_sum (numbers Product) h = calculated (free_product (numbers Product) (omega arith)) no_term
  free_sum operand h = calculated (free_product operand (omega arith)) no_term

  free_comparison : (p : Part) → 3 ≤ rank p → Climbs p levels x ts comparison x ts
  free_comparison (conditions line) h = absurd (omega (arith, tightness_below line))
  free_comparison comparison h = here
  free_comparison (numbers line) h = numbered (free_sum (numbers line) (tightness_above line))
  free_comparison operand h = numbered (free_sum operand (omega arith))

  free_all : (p : Part) → 2 ≤ rank p → Climbs p levels x ts (conditions All) x ts
  free_all (conditions Any) h = absurd (omega arith)
  free_all (conditions All) h = here
  free_all comparison h = chained here no_link
  free_all (numbers line) h = chained (free_comparison (numbers line) (omega (arith, tightness_above line))) no_link
  free_all operand h = chained (free_comparison operand (omega arith)) no_link

  free_any : (p : Part) → Climbs p levels x ts (conditions Any) x ts
  free_any (conditions Any) = here
  free_any (conditions All) = chained here no_link
  free_any comparison = chained (free_all comparison (omega arith)) no_link
  free_any (numbers line) = chained (free_all (numbers line) (omega (arith, tightness_above line))) no_link
  free_any operand = chained (free_all operand (omega arith)) no_link

  -- an operand, or a part that binds as tightly, is a looser part by itself
  pub free : (p q : Part) → rank q ≤ rank p → Climbs p levels x ts q x ts
  free p (conditions Any) h = free_any p
  free p (conditions All) h = free_all p h
  free p comparison h = free_comparison p h
  free p (numbers Sum) h = free_sum p h
  free p (numbers Product) h = free_product p h
  free p operand h = free_operand p h

pub join_is : {line over : ConditionLine} {join before : Join} → Joins line join ≡ Joins over before → join ≡ before
join_is e = cc

pub test_is : {test before : FieldOp} → Tests test ≡ Tests before → test ≡ before
test_is e = cc

pub arith_is : {line over : NumberLine} {sign before : Arith} → Combines line sign ≡ Combines over before → sign ≡ before
arith_is e = cc

-- the signs that a chain of conditions goes on with: read at the first token, or the chain ends before it
pub record TakesLink (line : ConditionLine) (join : Join) (levels : ℕ) (us : List Lexeme) (links : List Joined) (rest : List Lexeme) : Type 0 where
  pub of : Ast
  pub after : List Lexeme
  pub more : List Joined
  pub reads : Parses (of_conditions line) levels us of after
  pub links_on : Links line levels after more rest
  pub all : links ≡ link join of ∷ more

pub take_link : {line : ConditionLine} {levels : ℕ} {ts rest : List Lexeme} {links : List Joined} → Links line levels ts links rest → {t : Lexeme} {us : List Lexeme} {join : Join} → ts ≡ t ∷ us → after_of t ≡ Joins line join → ((links ≡ []) × (rest ≡ t ∷ us)) ⊎ TakesLink line join levels us links rest
take_link no_link same e = inl (refl, same)
take_link (a_link {line = line} {levels = levels} {us = after} {of = of} {links = more} e' r l) same e =
    let sign = join_is (sym e' ∙ ap after_of (head_is same) ∙ e) in
    inr (record {
      of = of;
      after = after;
      more = more;
      reads = subst (λ v. Parses (of_conditions line) levels v of after) (tail_is same) r;
      links_on = l;
      all = ap (λ s. link s of ∷ more) sign;
    })

pub record TakesTerm (line : NumberLine) (sign : Arith) (levels : ℕ) (us : List Lexeme) (terms : List Combined) (rest : List Lexeme) : Type 0 where
  pub of : Ast
  pub after : List Lexeme
  pub more : List Combined
  pub reads : Parses (of_numbers line) levels us of after
  pub terms_on : Terms line levels after more rest
  pub all : terms ≡ term sign of ∷ more

pub take_term : {line : NumberLine} {levels : ℕ} {ts rest : List Lexeme} {terms : List Combined} → Terms line levels ts terms rest → {t : Lexeme} {us : List Lexeme} {sign : Arith} → ts ≡ t ∷ us → after_of t ≡ Combines line sign → ((terms ≡ []) × (rest ≡ t ∷ us)) ⊎ TakesTerm line sign levels us terms rest
take_term no_term same e = inl (refl, same)
take_term (a_term {line = line} {levels = levels} {us = after} {of = of} {terms = more} e' r l) same e =
    let sign = arith_is (sym e' ∙ ap after_of (head_is same) ∙ e) in
    inr (record {
      of = of;
      after = after;
      more = more;
      reads = subst (λ v. Parses (of_numbers line) levels v of after) (tail_is same) r;
      terms_on = l;
      all = ap (λ s. term s of ∷ more) sign;
    })

-- The operand tree goes on to the part q with a token that joins it on this line.
pub record Joined_by (line : ConditionLine) (join : Join) (levels : ℕ) (x : Ast) (us : List Lexeme) (q : Part) (tree : Ast) (rest : List Lexeme) : Type 0 where
  pub of : Ast
  pub between : List Lexeme
  pub after : List Lexeme
  pub more : List Joined
  pub reads : Parses (of_conditions line) levels us of between
  pub links_on : Links line levels between more after
  pub climbs : Climbs (conditions line) levels (chain_of x (link join of ∷ more)) after q tree rest

pub record Tested_by (test : FieldOp) (levels : ℕ) (x : Ast) (us : List Lexeme) (q : Part) (tree : Ast) (rest : List Lexeme) : Type 0 where
  pub of : Ast
  pub after : List Lexeme
  pub reads : Parses (numbers Sum) levels us of after
  pub climbs : Climbs comparison levels (tested test x of) after q tree rest

pub record Combined_by (line : NumberLine) (sign : Arith) (levels : ℕ) (x : Ast) (us : List Lexeme) (q : Part) (tree : Ast) (rest : List Lexeme) : Type 0 where
  pub of : Ast
  pub between : List Lexeme
  pub after : List Lexeme
  pub more : List Combined
  pub reads : Parses (of_numbers line) levels us of between
  pub terms_on : Terms line levels between more after
  pub climbs : Climbs (numbers line) levels (calculation_of x (term sign of ∷ more)) after q tree rest

-- the chain that the token stands in: the operand is its first condition
chain_with : {line : ConditionLine} {join : Join} {levels : ℕ} {x first : Ast} {t : Lexeme} {us vs rest : List Lexeme} {links : List Joined} → first ≡ x → vs ≡ t ∷ us → Links line levels vs links rest → after_of t ≡ Joins line join → (rest ≡ t ∷ us) ⊎ Joined_by line join levels x us (conditions line) (chain_of first links) rest
chain_with {line} {join} {levels} {x} {first} {t} {us} {vs} {rest} {links} same at l e = go (take_link l at e)
  where
    go : ((links ≡ []) × (rest ≡ t ∷ us)) ⊎ TakesLink line join levels us links rest → (rest ≡ t ∷ us) ⊎ Joined_by line join levels x us (conditions line) (chain_of first links) rest
    go (inl n) = inl n.1
    go (inr k) = inr (record {
      of = k.of;
      between = k.after;
      after = rest;
      more = k.more;
      reads = k.reads;
      links_on = k.links_on;
      climbs = subst (λ tree. Climbs (conditions line) levels (chain_of x (link join k.of ∷ k.more)) rest (conditions line) tree rest) (ap₂ chain_of (sym same) (sym k.all)) here;
    })

calculation_with : {line : NumberLine} {sign : Arith} {levels : ℕ} {x first : Ast} {t : Lexeme} {us vs rest : List Lexeme} {terms : List Combined} → first ≡ x → vs ≡ t ∷ us → Terms line levels vs terms rest → after_of t ≡ Combines line sign → (rest ≡ t ∷ us) ⊎ Combined_by line sign levels x us (numbers line) (calculation_of first terms) rest
calculation_with {line} {sign} {levels} {x} {first} {t} {us} {vs} {rest} {terms} same at l e = go (take_term l at e)
  where
    go : ((terms ≡ []) × (rest ≡ t ∷ us)) ⊎ TakesTerm line sign levels us terms rest → (rest ≡ t ∷ us) ⊎ Combined_by line sign levels x us (numbers line) (calculation_of first terms) rest
    go (inl n) = inl n.1
    go (inr k) = inr (record {
      of = k.of;
      between = k.after;
      after = rest;
      more = k.more;
      reads = k.reads;
      terms_on = k.terms_on;
      climbs = subst (λ tree. Climbs (numbers line) levels (calculation_of x (term sign k.of ∷ k.more)) rest (numbers line) tree rest) (ap₂ calculation_of (sym same) (sym k.all)) here;
    })

chained_by : {line over : ConditionLine} {join : Join} {levels : ℕ} {x first : Ast} {t : Lexeme} {us vs rest : List Lexeme} {links : List Joined} → tightness over < tightness line → (vs ≡ t ∷ us) ⊎ Joined_by line join levels x us (of_conditions over) first vs → Links over levels vs links rest → after_of t ≡ Joins line join → (rest ≡ t ∷ us) ⊎ Joined_by line join levels x us (conditions over) (chain_of first links) rest
chained_by low (inl same) l e =
    let at : pull_of _ ≡ _ = ap pull_of same ∙ ap pull e in
    inl ((no_links l (λ h. omega arith)).1 ∙ same)
chained_by low (inr k) l e = inr (record { of = k.of; between = k.between; after = k.after; more = k.more; reads = k.reads; links_on = k.links_on; climbs = chained k.climbs l })

-- A token that joins conditions on a line between the two parts is read there, or stands behind all that is read.
pub joined_at : {p : Part} {levels : ℕ} {x : Ast} {t : Lexeme} {us : List Lexeme} {q : Part} {tree : Ast} {rest : List Lexeme} → Climbs p levels x (t ∷ us) q tree rest → (line : ConditionLine) (join : Join) → after_of t ≡ Joins line join → tightness line < rank p → rank q ≤ tightness line → (rest ≡ t ∷ us) ⊎ Joined_by line join levels x us q tree rest
joined_at here line join e high low = absurd (omega arith)
joined_at (chained {line = Any} c l) Any join e high low =
    let s = still c (λ h. omega (arith, ap pull e)) in chain_with s.0 s.1 l e
joined_at (chained {line = All} c l) All join e high low =
    let s = still c (λ h. omega (arith, ap pull e)) in chain_with s.0 s.1 l e
joined_at (chained {line = Any} c l) All join e high low = chained_by (omega arith) (joined_at c All join e high (omega arith)) l e
joined_at (chained {line = All} c l) Any join e high low = absurd (omega arith)
joined_at (numbered c) line join e high low = absurd (omega (arith, tightness_below line))
joined_at (compared c k o) line join e high low = absurd (omega (arith, tightness_below line))
joined_at (calculated {line = over} c l) line join e high low = absurd (omega (arith, tightness_below line, tightness_above over))

over_test : {over : ConditionLine} {test : FieldOp} {levels : ℕ} {x first : Ast} {t : Lexeme} {us vs rest : List Lexeme} {links : List Joined} → (vs ≡ t ∷ us) ⊎ Tested_by test levels x us (of_conditions over) first vs → Links over levels vs links rest → after_of t ≡ Tests test → (rest ≡ t ∷ us) ⊎ Tested_by test levels x us (conditions over) (chain_of first links) rest
over_test {over} (inl same) l e =
    let at : pull_of _ ≡ _ = ap pull_of same ∙ ap pull e in
    inl ((no_links l (λ h. omega (arith, tightness_below over))).1 ∙ same)
over_test (inr k) l e = inr (record { of = k.of; after = k.after; reads = k.reads; climbs = chained k.climbs l })

-- A comparison's sign between the two parts is read there, or stands behind all that is read.
pub tested_at : {p : Part} {levels : ℕ} {x : Ast} {t : Lexeme} {us : List Lexeme} {q : Part} {tree : Ast} {rest : List Lexeme} → Climbs p levels x (t ∷ us) q tree rest → (test : FieldOp) → after_of t ≡ Tests test → 3 < rank p → rank q ≤ 3 → (rest ≡ t ∷ us) ⊎ Tested_by test levels x us q tree rest
tested_at here test e high low = absurd (omega arith)
tested_at (chained {line = Any} c l) test e high low = over_test (tested_at c test e high (omega arith)) l e
tested_at (chained {line = All} c l) test e high low = over_test (tested_at c test e high (omega arith)) l e
tested_at (numbered c) test e high low = inl (still c (λ h. omega (arith, ap pull e))).1
tested_at {p} {levels} {x} {t} {us} (compared {us = after} {rest = rest} {left = left} {right = of} {test = before} c k o) test e high low =
    let s = still c (λ h. omega (arith, ap pull e)) in
    let same : before ≡ test = test_is (sym k ∙ ap after_of (head_is s.1) ∙ e) in
    inr (record {
      of = of;
      after = rest;
      reads = subst (λ v. Parses (numbers Sum) levels v of rest) (tail_is s.1) o;
      climbs = subst (λ tree. Climbs comparison levels (tested test x of) rest comparison tree rest) (sym (ap₂ (λ s y. tested s y of) same s.0)) here;
    })
tested_at (calculated {line = over} c l) test e high low = absurd (omega (arith, tightness_above over))

over_number : {line over : NumberLine} {sign : Arith} {levels : ℕ} {x first : Ast} {t : Lexeme} {us vs rest : List Lexeme} {terms : List Combined} → number_tightness over < number_tightness line → (vs ≡ t ∷ us) ⊎ Combined_by line sign levels x us (of_numbers over) first vs → Terms over levels vs terms rest → after_of t ≡ Combines line sign → (rest ≡ t ∷ us) ⊎ Combined_by line sign levels x us (numbers over) (calculation_of first terms) rest
over_number low (inl same) l e =
    let at : pull_of _ ≡ _ = ap pull_of same ∙ ap pull e in
    inl ((no_terms l (λ h. omega arith)).1 ∙ same)
over_number low (inr k) l e = inr (record { of = k.of; between = k.between; after = k.after; more = k.more; reads = k.reads; terms_on = k.terms_on; climbs = calculated k.climbs l })

over_condition : {line : NumberLine} {over : ConditionLine} {sign : Arith} {levels : ℕ} {x first : Ast} {t : Lexeme} {us vs rest : List Lexeme} {links : List Joined} → (vs ≡ t ∷ us) ⊎ Combined_by line sign levels x us (of_conditions over) first vs → Links over levels vs links rest → after_of t ≡ Combines line sign → (rest ≡ t ∷ us) ⊎ Combined_by line sign levels x us (conditions over) (chain_of first links) rest
over_condition {line} {over} (inl same) l e =
    let at : pull_of _ ≡ _ = ap pull_of same ∙ ap pull e in
    inl ((no_links l (λ h. omega (arith, tightness_below over, tightness_above line))).1 ∙ same)
over_condition (inr k) l e = inr (record { of = k.of; between = k.between; after = k.after; more = k.more; reads = k.reads; terms_on = k.terms_on; climbs = chained k.climbs l })

over_number_alone : {line : NumberLine} {sign : Arith} {levels : ℕ} {x tree : Ast} {t : Lexeme} {us rest : List Lexeme} → (rest ≡ t ∷ us) ⊎ Combined_by line sign levels x us (numbers Sum) tree rest → (rest ≡ t ∷ us) ⊎ Combined_by line sign levels x us comparison tree rest
over_number_alone (inl same) = inl same
over_number_alone (inr k) = inr (record { of = k.of; between = k.between; after = k.after; more = k.more; reads = k.reads; terms_on = k.terms_on; climbs = numbered k.climbs })

over_comparison : {line : NumberLine} {sign : Arith} {test : FieldOp} {levels : ℕ} {x left right : Ast} {t v : Lexeme} {us vs rest : List Lexeme} → (v ∷ vs ≡ t ∷ us) ⊎ Combined_by line sign levels x us (numbers Sum) left (v ∷ vs) → after_of v ≡ Tests test → Parses (numbers Sum) levels vs right rest → after_of t ≡ Combines line sign → (rest ≡ t ∷ us) ⊎ Combined_by line sign levels x us comparison (tested test left right) rest
over_comparison (inl same) k o e = absurd (unlike (sym k ∙ ap after_of (head_is same) ∙ e))
  where
    unlike : {test : FieldOp} {line : NumberLine} {sign : Arith} → Tests test ≡ Combines line sign → ⊥
    unlike h = cc
over_comparison (inr c) k o e = inr (record { of = c.of; between = c.between; after = c.after; more = c.more; reads = c.reads; terms_on = c.terms_on; climbs = compared c.climbs k o })

-- A sign of numbers between the two parts is read there, or stands behind all that is read.
pub combined_at : {p : Part} {levels : ℕ} {x : Ast} {t : Lexeme} {us : List Lexeme} {q : Part} {tree : Ast} {rest : List Lexeme} → Climbs p levels x (t ∷ us) q tree rest → (line : NumberLine) (sign : Arith) → after_of t ≡ Combines line sign → number_tightness line < rank p → rank q ≤ number_tightness line → (rest ≡ t ∷ us) ⊎ Combined_by line sign levels x us q tree rest
combined_at here line sign e high low = absurd (omega arith)
combined_at (chained {line = Any} c l) line sign e high low = over_condition (combined_at c line sign e high (omega (arith, tightness_above line))) l e
combined_at (chained {line = All} c l) line sign e high low = over_condition (combined_at c line sign e high (omega (arith, tightness_above line))) l e
combined_at (numbered c) line sign e high low = over_number_alone (combined_at c line sign e high (tightness_above line))
combined_at (compared c k o) line sign e high low = over_comparison (combined_at c line sign e high (tightness_above line)) k o e
combined_at (calculated {line = Sum} c l) Sum sign e high low =
    let s = still c (λ h. omega (arith, ap pull e)) in calculation_with s.0 s.1 l e
combined_at (calculated {line = Product} c l) Product sign e high low =
    let s = still c (λ h. omega (arith, ap pull e)) in calculation_with s.0 s.1 l e
combined_at (calculated {line = Sum} c l) Product sign e high low = over_number (omega arith) (combined_at c Product sign e high (omega arith)) l e
combined_at (calculated {line = Product} c l) Sum sign e high low = absurd (omega arith)
