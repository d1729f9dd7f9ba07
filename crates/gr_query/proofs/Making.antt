-- The trees that the grammar makes of texts are those of queries.
use Rattle.std.proofs.Common.{◌≡◌, ℕ, List, [], ◌∷◌, ◌++◌, map, IsUtf8, refl, ap, subst}
use Rattle.gr_ast.specs.declared.ast.Ast.{Ast, every_made-Ast}
use Rattle.gr_ast.specs.declared.ast.Ast.TheOpen.{Ast-F}
use Rattle.gr_ast.specs.declared.ast.Ast.TheVariants as ast
use Rattle.gr_ast.specs.declared.operators.FieldOp.{FieldOp}
use Rattle.gr_ast.specs.declared.operators.Join.{Join}
use Rattle.gr_ast.specs.declared.operators.Join.TheVariants as join
use Rattle.gr_ast.specs.declared.ast.Joined.{Joined, every-Joined, every_made-Joined}
use Rattle.gr_ast.specs.declared.operators.Seek.{Seek}
use Rattle.gr_query.specs.declared.frame.Units.{Units}
use Rattle.gr_query.specs.Grammar.{ParsesQuery, a_query, ParsesFirst, no_sign, a_plus, a_minus, ParsesFollow, no_follow, a_unit, a_join, ParsesUnit, a_word, a_field, a_group, Sentence}
use Rattle.gr_query.specs.Inside.Lexing.{IsText}
use Rattle.gr_ast.specs.Made.{SeeksWord, IsMadeLayer, IsQueryLayer, AnyLink, AnyTerm, Every, IsMade, IsOfQuery}
use Rattle.gr_ast.specs.Trees.{Layer}
use Rattle.gr_ast.specs.Trees.{link, chain}
use Rattle.gr_query.specs.Token.{Lexeme}
use Rattle.gr_text.specs.Inside.Reading.{AreText}

-- this holds of each level that the grammar makes of texts
pub record Holds (IsLayer : Layer → Type 0) : Type 0 where
  pub all : (at : ℕ) → IsLayer (Ast-F.All at)
  pub word : (at : ℕ) (seek : Seek) (text : List ℕ) → SeeksWord seek × IsUtf8 text → IsLayer (Ast-F.Word at seek text)
  pub field : (at : ℕ) (path : List ℕ) (test : FieldOp) (text : List ℕ) → IsUtf8 path × IsUtf8 text → IsLayer (Ast-F.FieldTest at path test text)
  pub chain : (at : ℕ) (first : Ast) (rest : List Joined) → IsLayer (Ast-F.Chain at first rest)

module _ (IsLayer : Layer → Type 0) (holds : Holds IsLayer) where
  -- of each level of the tree it holds
  abbrev Made : Ast → Type 0
  Made tree = Every IsLayer tree

  abbrev MadeLink : Type 0
  MadeLink = (link : Joined) × every-Joined IsLayer AnyTerm AnyLink link

  abbrev AreMade : List Joined → Type 0
  AreMade links = (made : List MadeLink) × (map (λ m. m.0) made ≡ links)

  made_all : (at : ℕ) → Made (ast.All at)
  made_all at = subst Made (ast.rolls-All at) (every_made-Ast IsLayer AnyTerm AnyLink (Ast-F.All at) (Ast-F.All at) refl (holds.all at))

  made_word : (at : ℕ) (seek : Seek) (text : List ℕ) → SeeksWord seek × IsUtf8 text → Made (ast.Word at seek text)
  made_word at seek text h = subst Made (ast.rolls-Word at seek text) (every_made-Ast IsLayer AnyTerm AnyLink (Ast-F.Word at seek text) (Ast-F.Word at seek text) refl (holds.word at seek text h))

  made_field : (at : ℕ) (path : List ℕ) (test : FieldOp) (text : List ℕ) → IsUtf8 path × IsUtf8 text → Made (ast.FieldTest at path test text)
  made_field at path test text h = subst Made (ast.rolls-FieldTest at path test text) (every_made-Ast IsLayer AnyTerm AnyLink (Ast-F.FieldTest at path test text) (Ast-F.FieldTest at path test text) refl (holds.field at path test text h))

  made_link : (join : Join) (of : Ast) → Made of → every-Joined IsLayer AnyTerm AnyLink (link join of)
  made_link join of m = every_made-Joined IsLayer AnyTerm AnyLink (record { join = join; of = of }) (record { join = join; of = (of, m) }) refl tt

  made_chain : (at : ℕ) (first : Ast) (links : List Joined) → Made first → AreMade links → Made (chain at first links)
  made_chain at first [] m l = m
  made_chain at first (second ∷ rest) m l =
      subst Made (ast.rolls-Chain at first (second ∷ rest)) (every_made-Ast IsLayer AnyTerm AnyLink (Ast-F.Chain at first (second ∷ rest)) (Ast-F.Chain at (first, m) l.0) (ap (Ast-F.Chain at first) l.1) (holds.chain at first (second ∷ rest)))

  with_link : (join : Join) (of : Ast) {links : List Joined} → Made of → AreMade links → AreMade (link join of ∷ links)
  with_link join of m l = ((link join of, made_link join of m) ∷ l.0, ap (λ links. link join of ∷ links) l.1)

  -- the trees of a units
  record AreMadeUnits (units : Units) : Type 0 where
    first : Made units.first
    links : AreMade units.links

  joined : {xs ys : List Joined} → AreMade xs → AreMade ys → AreMade (xs ++ ys)
  joined {xs} {ys} a b = go a.0 a.1
    where
      go : (made : List MadeLink) {xs : List Joined} → map (λ m. m.0) made ≡ xs → AreMade (xs ++ ys)
      go [] e = subst (λ xs. AreMade (xs ++ ys)) e b
      go (m ∷ made) e = subst (λ xs. AreMade (xs ++ ys)) e (let c = go made refl in (m ∷ c.0, ap (λ links. m.0 ∷ links) c.1))

  mutual
    -- what is read of texts is the tree of a query, and what is left is texts
    made_query : {levels : ℕ} {ts rest : List Lexeme} {tree : Ast} {at : ℕ} → ParsesQuery levels ts tree at rest → AreText IsText ts → Made tree × AreText IsText rest
    made_query (a_query {first = first} {links = links} f l) h =
        let m = made_first f h in
        let n = made_follow l m.1 in
        (made_chain first.at first.first (first.links ++ links) (m.0).first (joined (m.0).links n.0), n.1)

    made_first : {levels : ℕ} {ts rest : List Lexeme} {units : Units} → ParsesFirst levels ts units rest → AreText IsText ts → AreMadeUnits units × AreText IsText rest
    made_first (no_sign u) h = let m = made_unit u h in (record { first = m.0; links = ([], refl) }, m.1)
    made_first (a_plus e u) h = let m = made_unit u h.1 in (record { first = m.0; links = ([], refl) }, m.1)
    made_first (a_minus {t = t} {tree = tree} e u) h = let m = made_unit u h.1 in (record { first = made_all t.at; links = with_link join.Without tree m.0 ([], refl) }, m.1)

    made_follow : {levels : ℕ} {ts rest : List Lexeme} {links : List Joined} → ParsesFollow levels ts links rest → AreText IsText ts → AreMade links × AreText IsText rest
    made_follow no_follow h = (([], refl), h)
    made_follow (a_unit {tree = tree} u l) h =
        let m = made_unit u h in
        let n = made_follow l m.1 in
        (with_link join.And tree m.0 n.0, n.1)
    made_follow (a_join {tree = tree} {join = join} e u l) h =
        let m = made_unit u h.1 in
        let n = made_follow l m.1 in
        (with_link join tree m.0 n.0, n.1)

    made_unit : {levels : ℕ} {ts rest : List Lexeme} {tree : Ast} {at : ℕ} → ParsesUnit levels ts tree at rest → AreText IsText ts → Made tree × AreText IsText rest
    made_unit (a_word {t = t} {seek = seek} {text = text} e) h = (made_word t.at seek text (subst IsText e h.0), h.1)
    made_unit (a_field {t = t} {path = path} {text = text} {test = test} e) h = (made_field t.at path test text (subst IsText e h.0), h.1)
    made_unit (a_group e q c) h = let m = made_query q h.1 in (m.0, (m.1).1)

is_made : Holds IsMadeLayer
is_made = record { all = λ at. tt; word = λ at seek text h. h; field = λ at path test text h. h; chain = λ at first rest. tt }

is_of_query : Holds IsQueryLayer
is_of_query = record { all = λ at. tt; word = λ at seek text h. tt; field = λ at path test text h. tt; chain = λ at first rest. tt }

pub made_sentence : {levels : ℕ} {ts : List Lexeme} {tree : Ast} → Sentence levels ts tree → AreText IsText ts → IsMade tree
made_sentence s h = (made_query IsMadeLayer is_made s.1 h).0

pub shaped_sentence : {levels : ℕ} {ts : List Lexeme} {tree : Ast} → Sentence levels ts tree → AreText IsText ts → IsOfQuery tree
shaped_sentence s h = (made_query IsQueryLayer is_of_query s.1 h).0
