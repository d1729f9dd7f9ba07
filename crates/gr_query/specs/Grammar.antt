-- The grammar of queries, as relations between tokens and trees.
use Rattle.std.specs.Prelude.{◌≡◌, ℕ, suc, Option, Some, None, List, [], ◌∷◌}
use Rattle.gr_ast.specs.declared.ast.Ast.{Ast}
use Rattle.gr_ast.specs.declared.ast.Ast.TheVariants as ast
use Rattle.gr_ast.specs.declared.operators.FieldOp.{FieldOp}
use Rattle.gr_ast.specs.declared.operators.Join.{Join}
use Rattle.gr_ast.specs.declared.operators.Join.TheVariants as join
use Rattle.gr_ast.specs.declared.ast.Joined.{Joined}
use Rattle.gr_ast.specs.declared.operators.Seek.{Seek}
use Rattle.gr_query.specs.declared.frame.Units.{Units}
use Rattle.gr_query.specs.declared.token.Token.{Token}
use Rattle.gr_query.specs.declared.token.Token.TheVariants.{Open, Close, Plus, Minus, Or, Word, Field}
use Rattle.gr_ast.specs.Trees.{link}
use Rattle.gr_query.specs.Units.{alone, with_links, tree_of}
use Rattle.gr_query.specs.Token.{Lexeme}

-- how a unit behind this token is joined to those before it
abbrev pub join_of : Token → Option Join
join_of Plus = Some join.And
join_of Minus = Some join.Without
join_of Or = Some join.Or
join_of _ = None

mutual
  -- The tokens begin with a query, with at most so many brackets round a place in it. Its tree, the place of its first token that is no opening bracket, and the tokens after it.
  pub data ParsesQuery : ℕ → List Lexeme → Ast → ℕ → List Lexeme → Type 0 where
    a_query : {levels : ℕ} {ts us rest : List Lexeme} {first : Units} {links : List Joined} → ParsesFirst levels ts first us → ParsesFollow levels us links rest → ParsesQuery levels ts (tree_of (with_links first links)) first.at rest

  -- what a query begins with
  pub data ParsesFirst : ℕ → List Lexeme → Units → List Lexeme → Type 0 where
    no_sign : {levels : ℕ} {ts rest : List Lexeme} {tree : Ast} {at : ℕ} → ParsesUnit levels ts tree at rest → ParsesFirst levels ts (alone at tree) rest
    a_plus : {levels : ℕ} {t : Lexeme} {ts rest : List Lexeme} {tree : Ast} {at : ℕ} → t.token ≡ Plus → ParsesUnit levels ts tree at rest → ParsesFirst levels (t ∷ ts) (alone t.at tree) rest
    a_minus : {levels : ℕ} {t : Lexeme} {ts rest : List Lexeme} {tree : Ast} {at : ℕ} → t.token ≡ Minus → ParsesUnit levels ts tree at rest → ParsesFirst levels (t ∷ ts) (with_links (alone t.at (ast.All t.at)) (link join.Without tree ∷ [])) rest

  -- what a query has after that
  pub data ParsesFollow : ℕ → List Lexeme → List Joined → List Lexeme → Type 0 where
    no_follow : {levels : ℕ} {rest : List Lexeme} → ParsesFollow levels rest [] rest
    a_unit : {levels : ℕ} {ts us rest : List Lexeme} {tree : Ast} {at : ℕ} {links : List Joined} → ParsesUnit levels ts tree at us → ParsesFollow levels us links rest → ParsesFollow levels ts (link join.And tree ∷ links) rest
    a_join : {levels : ℕ} {t : Lexeme} {ts us rest : List Lexeme} {tree : Ast} {at : ℕ} {join : Join} {links : List Joined} → join_of t.token ≡ Some join → ParsesUnit levels ts tree at us → ParsesFollow levels us links rest → ParsesFollow levels (t ∷ ts) (link join tree ∷ links) rest

  -- a unit, its tree, and the place of its first token that is no opening bracket
  pub data ParsesUnit : ℕ → List Lexeme → Ast → ℕ → List Lexeme → Type 0 where
    a_word : {levels : ℕ} {t : Lexeme} {rest : List Lexeme} {seek : Seek} {text : List ℕ} → t.token ≡ Word seek text → ParsesUnit levels (t ∷ rest) (ast.Word t.at seek text) t.at rest
    a_field : {levels : ℕ} {t : Lexeme} {rest : List Lexeme} {path text : List ℕ} {test : FieldOp} → t.token ≡ Field path test text → ParsesUnit levels (t ∷ rest) (ast.FieldTest t.at path test text) t.at rest
    a_group : {levels : ℕ} {t u : Lexeme} {ts rest : List Lexeme} {tree : Ast} {at : ℕ} → t.token ≡ Open → ParsesQuery levels ts tree at (u ∷ rest) → u.token ≡ Close → ParsesUnit (suc levels) (t ∷ ts) tree at rest

-- the tokens are a query with at most so many brackets round a place, of this tree
abbrev pub Sentence : ℕ → List Lexeme → Ast → Type 0
Sentence levels ts tree = (at : ℕ) × ParsesQuery levels ts tree at []
