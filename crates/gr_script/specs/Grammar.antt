-- The grammar of scripts, as a relation between tokens and trees.
use Rattle.std.specs.Prelude.{◌≡◌, ℕ, suc, true, List, [], ◌∷◌, length}
use Rattle.gr_ast.specs.declared.operators.Arith.{Arith}
use Rattle.gr_ast.specs.declared.ast.Ast.{Ast}
use Rattle.gr_ast.specs.declared.ast.Combined.{Combined}
use Rattle.gr_ast.specs.declared.operators.FieldOp.{FieldOp}
use Rattle.gr_ast.specs.declared.operators.Join.{Join}
use Rattle.gr_ast.specs.declared.ast.Joined.{Joined}
use Rattle.gr_script.specs.declared.grammar.After.TheVariants.{Closes, Separates, Joins, Tests, Combines}
use Rattle.gr_script.specs.declared.grammar.Call.{Call}
use Rattle.gr_script.specs.declared.grammar.ConditionLine.{ConditionLine}
use Rattle.gr_script.specs.declared.grammar.ConditionLine.TheVariants.{Any, All}
use Rattle.gr_script.specs.declared.grammar.NumberLine.{NumberLine}
use Rattle.gr_script.specs.declared.grammar.NumberLine.TheVariants.{Sum, Product}
use Rattle.gr_script.specs.declared.grammar.Sign.{Sign}
use Rattle.gr_script.specs.declared.grammar.Start.TheVariants.{Leaf, Signed, Grouped, Called}
use Rattle.gr_script.specs.Token.{Lexeme}
use Rattle.gr_ast.specs.Trees.{link, term}
use Rattle.gr_script.specs.Trees.{chain_of, calculation_of, tested, signed, called, takes}
use Rattle.gr_script.specs.Words.{start_of, after_of, opens}

-- the parts of the grammar, from the loosest to the tightest
pub data Part : Type 0 where
  conditions : ConditionLine → Part
  comparison : Part
  numbers : NumberLine → Part
  operand : Part

-- a whole script is conditions joined by `||`
abbrev pub script : Part
script = conditions Any

-- what a line of conditions joins
abbrev pub of_conditions : ConditionLine → Part
of_conditions Any = conditions All
of_conditions All = comparison

-- what a line of numbers combines
abbrev pub of_numbers : NumberLine → Part
of_numbers Sum = numbers Product
of_numbers Product = operand

mutual
  -- The tokens begin with this part, with at most so many levels in it. Its tree, and the tokens after it.
  pub data Parses : Part → ℕ → List Lexeme → Ast → List Lexeme → Type 0 where
    a_chain : {line : ConditionLine} {levels : ℕ} {ts us rest : List Lexeme} {first : Ast} {links : List Joined} → Parses (of_conditions line) levels ts first us → Links line levels us links rest → Parses (conditions line) levels ts (chain_of first links) rest
    a_number : {levels : ℕ} {ts rest : List Lexeme} {tree : Ast} → Parses (numbers Sum) levels ts tree rest → Parses comparison levels ts tree rest
    a_test : {levels : ℕ} {t : Lexeme} {ts us rest : List Lexeme} {left right : Ast} {test : FieldOp} → Parses (numbers Sum) levels ts left (t ∷ us) → after_of t ≡ Tests test → Parses (numbers Sum) levels us right rest → Parses comparison levels ts (tested test left right) rest
    a_calculation : {line : NumberLine} {levels : ℕ} {ts us rest : List Lexeme} {first : Ast} {terms : List Combined} → Parses (of_numbers line) levels ts first us → Terms line levels us terms rest → Parses (numbers line) levels ts (calculation_of first terms) rest
    a_leaf : {levels : ℕ} {t : Lexeme} {rest : List Lexeme} {tree : Ast} → start_of t ≡ Leaf tree → Parses operand levels (t ∷ rest) tree rest
    a_sign : {levels : ℕ} {t : Lexeme} {ts rest : List Lexeme} {of : Ast} {sign : Sign} → start_of t ≡ Signed sign → Parses operand levels ts of rest → Parses operand (suc levels) (t ∷ ts) (signed sign t.at of) rest
    a_group : {levels : ℕ} {t u : Lexeme} {ts rest : List Lexeme} {tree : Ast} → start_of t ≡ Grouped → Parses script levels ts tree (u ∷ rest) → after_of u ≡ Closes → Parses operand (suc levels) (t ∷ ts) tree rest
    a_call : {levels : ℕ} {t u : Lexeme} {ts us rest : List Lexeme} {first : Ast} {more : List Ast} {call : Call} → start_of t ≡ Called call → opens u.token ≡ true → Parses script levels ts first us → Arguments levels us more rest → takes call (length (first ∷ more)) ≡ true → Parses operand (suc levels) (t ∷ u ∷ ts) (called call t.at (first ∷ more)) rest

  -- what a line of conditions has after its first one
  pub data Links : ConditionLine → ℕ → List Lexeme → List Joined → List Lexeme → Type 0 where
    no_link : {line : ConditionLine} {levels : ℕ} {rest : List Lexeme} → Links line levels rest [] rest
    a_link : {line : ConditionLine} {levels : ℕ} {t : Lexeme} {ts us rest : List Lexeme} {join : Join} {of : Ast} {links : List Joined} → after_of t ≡ Joins line join → Parses (of_conditions line) levels ts of us → Links line levels us links rest → Links line levels (t ∷ ts) (link join of ∷ links) rest

  -- what a line of numbers has after its first one
  pub data Terms : NumberLine → ℕ → List Lexeme → List Combined → List Lexeme → Type 0 where
    no_term : {line : NumberLine} {levels : ℕ} {rest : List Lexeme} → Terms line levels rest [] rest
    a_term : {line : NumberLine} {levels : ℕ} {t : Lexeme} {ts us rest : List Lexeme} {arith : Arith} {of : Ast} {terms : List Combined} → after_of t ≡ Combines line arith → Parses (of_numbers line) levels ts of us → Terms line levels us terms rest → Terms line levels (t ∷ ts) (term arith of ∷ terms) rest

  -- what a call has after its first argument: further ones behind commas, and the bracket that closes it
  pub data Arguments : ℕ → List Lexeme → List Ast → List Lexeme → Type 0 where
    no_argument : {levels : ℕ} {t : Lexeme} {rest : List Lexeme} → after_of t ≡ Closes → Arguments levels (t ∷ rest) [] rest
    an_argument : {levels : ℕ} {t : Lexeme} {ts us rest : List Lexeme} {tree : Ast} {more : List Ast} → after_of t ≡ Separates → Parses script levels ts tree us → Arguments levels us more rest → Arguments levels (t ∷ ts) (tree ∷ more) rest

-- the tokens are a script with at most so many levels, of this tree
abbrev pub Sentence : ℕ → List Lexeme → Ast → Type 0
Sentence levels ts tree = Parses script levels ts tree []
