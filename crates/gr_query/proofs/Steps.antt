-- A step of the reader goes exactly where the grammar goes on.
use Rattle.std.proofs.Common.{◌≡◌, ℕ, zero, suc, List, [], ◌∷◌, append_assoc, append-nil, Some, refl, sym, ap, subst}
use Rattle.gr_ast.specs.declared.ast.Ast.{Ast}
use Rattle.gr_ast.specs.declared.ast.Ast.TheVariants as ast
use Rattle.gr_ast.specs.declared.operators.Join.{Join}
use Rattle.gr_ast.specs.declared.operators.Join.TheVariants as join
use Rattle.gr_ast.specs.declared.ast.Joined.{Joined}
use Rattle.gr_query.specs.declared.frame.Before.{Before}
use Rattle.gr_query.specs.declared.frame.Before.TheVariants as before
use Rattle.gr_query.specs.declared.frame.Units.{Units}
use Rattle.gr_query.specs.declared.token.Token.{Token}
use Rattle.gr_query.specs.declared.token.Token.TheVariants.{Open, Close, Plus, Minus, Or, Word, Field}
use Rattle.gr_query.specs.Grammar.{join_of, ParsesQuery, a_query, ParsesFirst, no_sign, a_plus, a_minus, ParsesFollow, no_follow, a_unit, a_join, ParsesUnit, a_word, a_field, a_group}
use Rattle.gr_query.specs.Inside.Machine.{Phase, Begin, Want, Have, State, state, placed, open_on, unit_on, first_on, close_on, follow_on, step}
use Rattle.gr_ast.specs.Trees.{link}
use Rattle.gr_query.specs.Units.{alone, with_links, tree_of}
use Rattle.gr_query.specs.Token.{Lexeme}
use Rattle.gr_text.specs.Inside.Reading.{Outcome, goes, deep, wrong}
use Rattle.gr_text.proofs.Cases.{some_is, none_is}

-- Behind a units that is whole, in these open brackets, the tokens finish a query of the whole tree.
pub data Ends (w : Ast) : List Before → ℕ → Units → List Lexeme → Type 0 where
  at_end : {levels : ℕ} {units : Units} → tree_of units ≡ w → Ends w [] levels units []
  at_close : {before : Before} {frames : List Before} {levels : ℕ} {units : Units} {t : Lexeme} {ts rest : List Lexeme} {links : List Joined} → t.token ≡ Close → ParsesFollow (suc levels) ts links rest → Ends w frames (suc levels) (with_links (placed before units.at (tree_of units)) links) rest → Ends w (before ∷ frames) levels units (t ∷ ts)

-- the same behind a units that may go on
pub record Completes (w : Ast) (frames : List Before) (levels : ℕ) (units : Units) (ts : List Lexeme) : Type 0 where
  pub links : List Joined
  pub rest : List Lexeme
  pub follows : ParsesFollow levels ts links rest
  pub ends : Ends w frames levels (with_links units links) rest

-- the same where a unit is to be read first
pub record Wants (w : Ast) (before : Before) (frames : List Before) (levels : ℕ) (ts : List Lexeme) : Type 0 where
  pub tree : Ast
  pub at : ℕ
  pub rest : List Lexeme
  pub reads : ParsesUnit levels ts tree at rest
  pub completes : Completes w frames levels (placed before at tree) rest

-- the same where a query begins
pub record Starts (w : Ast) (frames : List Before) (levels : ℕ) (ts : List Lexeme) : Type 0 where
  pub first : Units
  pub rest : List Lexeme
  pub reads : ParsesFirst levels ts first rest
  pub completes : Completes w frames levels first rest

-- these tokens finish the query, from here
abbrev pub Goes : Ast → Phase → List Before → ℕ → List Lexeme → Type 0
Goes w Begin frames levels ts = Starts w frames levels ts
Goes w (Want before) frames levels ts = Wants w before frames levels ts
Goes w (Have units) frames levels ts = Completes w frames levels units ts

abbrev pub GoesOn : Ast → Outcome State → List Lexeme → Type 0
GoesOn w (goes (state phase frames levels)) ts = Goes w phase frames levels ts
GoesOn w deep ts = ⊥
GoesOn w wrong ts = ⊥

-- units with no further ones
pub with_links-nil : (units : Units) → with_links units [] ≡ units
with_links-nil units = ap (λ links. record units { links = links }) (append-nil units.links)

-- one more unit, and then the others
with_links-push : (units : Units) (first : Joined) (links : List Joined) → with_links (with_links units (first ∷ [])) links ≡ with_links units (first ∷ links)
with_links-push units first links = ap (λ links. record units { links = links }) (append_assoc units.links (first ∷ []) links)

module _ {w : Ast} {before : Before} {frames : List Before} where
  bracket_to : {levels : ℕ} {tree : Ast} {at : ℕ} {u : Lexeme} {us rest : List Lexeme} → ParsesQuery levels us tree at (u ∷ rest) → u.token ≡ Close → Completes w frames (suc levels) (placed before at tree) rest → Starts w (before ∷ frames) levels us
  bracket_to (a_query f l) e c = record { first = _; rest = _; reads = f; completes = record { links = _; rest = _; follows = l; ends = at_close e c.follows c.ends } }

  bracket_from : {levels : ℕ} {t : Lexeme} {first : Units} {us vs rest : List Lexeme} {links : List Joined} → t.token ≡ Open → ParsesFirst levels us first vs → ParsesFollow levels vs links rest → Ends w (before ∷ frames) levels (with_links first links) rest → Wants w before frames (suc levels) (t ∷ us)
  bracket_from {first = first} {links = links} e f l (at_close c k ends) =
      record { tree = tree_of (with_links first links); at = first.at; rest = _; reads = a_group e (a_query f l) c; completes = record { links = _; rest = _; follows = k; ends = ends } }

  opened : (levels : ℕ) {t : Lexeme} {us : List Lexeme} → t.token ≡ Open → GoesOn w (open_on before frames levels) us → Wants w before frames levels (t ∷ us)
  opened zero e m = absurd m
  opened (suc levels) e m = bracket_from e m.reads (m.completes).follows (m.completes).ends

  unit_from : (levels : ℕ) (t : Lexeme) (us : List Lexeme) (token : Token) → t.token ≡ token → GoesOn w (unit_on before frames levels t.at token) us → Wants w before frames levels (t ∷ us)
  unit_from levels t us Open e m = opened levels e m
  unit_from levels t us (Word seek text) e m = record { tree = ast.Word t.at seek text; at = t.at; rest = us; reads = a_word e; completes = m }
  unit_from levels t us (Field path test text) e m = record { tree = ast.FieldTest t.at path test text; at = t.at; rest = us; reads = a_field e; completes = m }
  unit_from levels t us Close e m = absurd m
  unit_from levels t us Plus e m = absurd m
  unit_from levels t us Minus e m = absurd m
  unit_from levels t us Or e m = absurd m

pub unit_to : {w : Ast} (before : Before) {frames : List Before} {levels : ℕ} {t : Lexeme} {us : List Lexeme} {tree : Ast} {at : ℕ} {rest : List Lexeme} → ParsesUnit levels (t ∷ us) tree at rest → Completes w frames levels (placed before at tree) rest → GoesOn w (unit_on before frames levels t.at t.token) us
unit_to {w} before {frames} {levels} {t} {us} (a_word e) c = subst (λ token. GoesOn w (unit_on before frames levels t.at token) us) (sym e) c
unit_to {w} before {frames} {levels} {t} {us} (a_field e) c = subst (λ token. GoesOn w (unit_on before frames levels t.at token) us) (sym e) c
unit_to {w} before {frames} {t = t} {us = us} (a_group {levels = levels} e q close) c = subst (λ token. GoesOn w (unit_on before frames (suc levels) t.at token) us) (sym e) (bracket_to q close c)

-- where a unit begins, no sign stands
unit_first : (frames : List Before) {levels : ℕ} {t : Lexeme} {us : List Lexeme} {tree : Ast} {at : ℕ} {rest : List Lexeme} → ParsesUnit levels (t ∷ us) tree at rest → first_on frames levels t.at t.token ≡ unit_on before.Nothing frames levels t.at t.token
unit_first frames {levels} {t} (a_word e) = subst (λ token. first_on frames levels t.at token ≡ unit_on before.Nothing frames levels t.at token) (sym e) refl
unit_first frames {levels} {t} (a_field e) = subst (λ token. first_on frames levels t.at token ≡ unit_on before.Nothing frames levels t.at token) (sym e) refl
unit_first frames {t = t} (a_group {levels = levels} e q close) = subst (λ token. first_on frames (suc levels) t.at token ≡ unit_on before.Nothing frames (suc levels) t.at token) (sym e) refl

unit_follows : (units : Units) (frames : List Before) {levels : ℕ} {t : Lexeme} {us : List Lexeme} {tree : Ast} {at : ℕ} {rest : List Lexeme} → ParsesUnit levels (t ∷ us) tree at rest → follow_on units frames levels t.at t.token ≡ unit_on (before.Joins units join.And) frames levels t.at t.token
unit_follows units frames {levels} {t} (a_word e) = subst (λ token. follow_on units frames levels t.at token ≡ unit_on (before.Joins units join.And) frames levels t.at token) (sym e) refl
unit_follows units frames {levels} {t} (a_field e) = subst (λ token. follow_on units frames levels t.at token ≡ unit_on (before.Joins units join.And) frames levels t.at token) (sym e) refl
unit_follows units frames {t = t} (a_group {levels = levels} e q close) = subst (λ token. follow_on units frames (suc levels) t.at token ≡ unit_on (before.Joins units join.And) frames (suc levels) t.at token) (sym e) refl

-- units, one more, and those behind it
extended : {w : Ast} {frames : List Before} {levels : ℕ} (units : Units) (first : Joined) {links : List Joined} {rest vs : List Lexeme} → ParsesFollow levels vs links rest → Ends w frames levels (with_links units (first ∷ links)) rest → Completes w frames levels (with_links units (first ∷ [])) vs
extended {w} {frames} {levels} units first {links} {rest} l ends =
    record { links = links; rest = rest; follows = l; ends = subst (λ of. Ends w frames levels of rest) (sym (with_links-push units first links)) ends }

units_on : {w : Ast} {frames : List Before} {levels : ℕ} (units : Units) (first : Joined) {vs : List Lexeme} (c : Completes w frames levels (with_links units (first ∷ [])) vs) → Ends w frames levels (with_links units (first ∷ c.links)) c.rest
units_on {w} {frames} {levels} units first c = subst (λ of. Ends w frames levels of c.rest) (with_links-push units first c.links) c.ends

closed : {w : Ast} {frames : List Before} {levels : ℕ} {t : Lexeme} {us : List Lexeme} {units : Units} → Ends w frames levels units (t ∷ us) → GoesOn w (follow_on units frames levels t.at t.token) us
closed {w} {levels = levels} {t = t} {us = us} {units = units} (at_close {before = before} {frames = frames} e k ends) =
    subst (λ token. GoesOn w (follow_on units (before ∷ frames) levels t.at token) us) (sym e) (record { links = _; rest = _; follows = k; ends = ends })

module _ (w : Ast) (frames : List Before) (levels : ℕ) (t : Lexeme) (us : List Lexeme) where
  first_to : {first : Units} {rest : List Lexeme} → ParsesFirst levels (t ∷ us) first rest → Completes w frames levels first rest → GoesOn w (first_on frames levels t.at t.token) us
  first_to (no_sign u) c = subst (λ o. GoesOn w o us) (sym (unit_first frames u)) (unit_to before.Nothing u c)
  first_to (a_plus e u) c = subst (λ token. GoesOn w (first_on frames levels t.at token) us) (sym e) (record { tree = _; at = _; rest = _; reads = u; completes = c })
  first_to (a_minus e u) c = subst (λ token. GoesOn w (first_on frames levels t.at token) us) (sym e) (record { tree = _; at = _; rest = _; reads = u; completes = c })

  started : Wants w before.Nothing frames levels (t ∷ us) → Starts w frames levels (t ∷ us)
  started m = record { first = alone m.at m.tree; rest = m.rest; reads = no_sign m.reads; completes = m.completes }

  first_from : (token : Token) → t.token ≡ token → GoesOn w (first_on frames levels t.at token) us → Starts w frames levels (t ∷ us)
  first_from Plus e m = record { first = alone t.at m.tree; rest = m.rest; reads = a_plus e m.reads; completes = m.completes }
  first_from Minus e m = record { first = with_links (alone t.at (ast.All t.at)) (link join.Without m.tree ∷ []); rest = m.rest; reads = a_minus e m.reads; completes = m.completes }
  first_from Open e m = started (unit_from levels t us Open e m)
  first_from (Word seek text) e m = started (unit_from levels t us (Word seek text) e m)
  first_from (Field path test text) e m = started (unit_from levels t us (Field path test text) e m)
  first_from Close e m = absurd m
  first_from Or e m = absurd m

  module _ (units : Units) where
    joins : (join : Join) (token : Token) → join_of token ≡ Some join → Wants w (before.Joins units join) frames levels us → GoesOn w (follow_on units frames levels t.at token) us
    joins join Plus e m = subst (λ join. Wants w (before.Joins units join) frames levels us) (sym (some_is e)) m
    joins join Minus e m = subst (λ join. Wants w (before.Joins units join) frames levels us) (sym (some_is e)) m
    joins join Or e m = subst (λ join. Wants w (before.Joins units join) frames levels us) (sym (some_is e)) m
    joins join Open e m = absurd (none_is e)
    joins join Close e m = absurd (none_is e)
    joins join (Word seek text) e m = absurd (none_is e)
    joins join (Field path test text) e m = absurd (none_is e)

    follow_to : {links : List Joined} {rest : List Lexeme} → ParsesFollow levels (t ∷ us) links rest → Ends w frames levels (with_links units links) rest → GoesOn w (follow_on units frames levels t.at t.token) us
    follow_to no_follow ends = closed (subst (λ of. Ends w frames levels of (t ∷ us)) (with_links-nil units) ends)
    follow_to (a_unit {tree = tree} u l) ends = subst (λ o. GoesOn w o us) (sym (unit_follows units frames u)) (unit_to (before.Joins units join.And) u (extended units (link join.And tree) l ends))
    follow_to (a_join {tree = tree} {join = join} e u l) ends = joins join t.token e (record { tree = _; at = _; rest = _; reads = u; completes = extended units (link join tree) l ends })

    united : Wants w (before.Joins units join.And) frames levels (t ∷ us) → Completes w frames levels units (t ∷ us)
    united m = record { links = link join.And m.tree ∷ (m.completes).links; rest = (m.completes).rest; follows = a_unit m.reads (m.completes).follows; ends = units_on units (link join.And m.tree) m.completes }

    joined : (join : Join) → join_of t.token ≡ Some join → Wants w (before.Joins units join) frames levels us → Completes w frames levels units (t ∷ us)
    joined join e m = record { links = link join m.tree ∷ (m.completes).links; rest = (m.completes).rest; follows = a_join e m.reads (m.completes).follows; ends = units_on units (link join m.tree) m.completes }

closing_from : {w : Ast} (frames : List Before) {levels : ℕ} {t : Lexeme} {us : List Lexeme} {units : Units} → t.token ≡ Close → GoesOn w (close_on units frames levels) us → Completes w frames levels units (t ∷ us)
closing_from [] e m = absurd m
closing_from {w} (before ∷ frames) {levels} {t} {us} {units} e m =
    record { links = []; rest = t ∷ us; follows = no_follow; ends = subst (λ of. Ends w (before ∷ frames) levels of (t ∷ us)) (sym (with_links-nil units)) (at_close e m.follows m.ends) }

follow_from : (w : Ast) (frames : List Before) (levels : ℕ) (t : Lexeme) (us : List Lexeme) (units : Units) (token : Token) → t.token ≡ token → GoesOn w (follow_on units frames levels t.at token) us → Completes w frames levels units (t ∷ us)
follow_from w frames levels t us units Plus e m = joined w frames levels t us units join.And (ap join_of e) m
follow_from w frames levels t us units Minus e m = joined w frames levels t us units join.Without (ap join_of e) m
follow_from w frames levels t us units Or e m = joined w frames levels t us units join.Or (ap join_of e) m
follow_from w frames levels t us units Close e m = closing_from frames e m
follow_from w frames levels t us units Open e m = united w frames levels t us units (unit_from levels t us Open e m)
follow_from w frames levels t us units (Word seek text) e m = united w frames levels t us units (unit_from levels t us (Word seek text) e m)
follow_from w frames levels t us units (Field path test text) e m = united w frames levels t us units (unit_from levels t us (Field path test text) e m)

-- what finishes the query with this token first finishes it behind the step
pub step_to : (w : Ast) (phase : Phase) (frames : List Before) (levels : ℕ) (t : Lexeme) (us : List Lexeme) → Goes w phase frames levels (t ∷ us) → GoesOn w (step phase frames levels t) us
step_to w Begin frames levels t us m = first_to w frames levels t us m.reads m.completes
step_to w (Want before) frames levels t us m = unit_to before m.reads m.completes
step_to w (Have units) frames levels t us m = follow_to w frames levels t us units m.follows m.ends

pub step_from : (w : Ast) (phase : Phase) (frames : List Before) (levels : ℕ) (t : Lexeme) (us : List Lexeme) → GoesOn w (step phase frames levels t) us → Goes w phase frames levels (t ∷ us)
step_from w Begin frames levels t us m = first_from w frames levels t us t.token refl m
step_from w (Want before) frames levels t us m = unit_from levels t us t.token refl m
step_from w (Have units) frames levels t us m = follow_from w frames levels t us units t.token refl m
