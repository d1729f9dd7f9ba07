-- Levels of a tree, their places, and the trees that are made of parts in a row.
use Rattle.std.specs.Prelude.{ℕ, List, [], ◌∷◌}
use Rattle.gr_ast.specs.declared.ast.Ast.{Ast, out-Ast}
use Rattle.gr_ast.specs.declared.ast.Ast.TheOpen.{Ast-F, Joined-F, Combined-F}
use Rattle.gr_ast.specs.declared.ast.Ast.TheVariants as ast
use Rattle.gr_ast.specs.declared.ast.Combined.{Combined, roll-Combined}
use Rattle.gr_ast.specs.declared.ast.Joined.{Joined, roll-Joined}
use Rattle.gr_ast.specs.declared.operators.Arith.{Arith}
use Rattle.gr_ast.specs.declared.operators.Join.{Join}

-- one level of a tree
abbrev pub Layer : Type 0
Layer = Ast-F Ast Combined Joined

-- a condition behind its sign, with a tree in it
abbrev pub LinkLayer : Type 0
LinkLayer = Joined-F Ast Combined Joined

-- a number behind its sign, with a tree in it
abbrev pub TermLayer : Type 0
TermLayer = Combined-F Ast Combined Joined

-- the place that a level has
abbrev pub place_in : Layer → ℕ
place_in (Ast-F.Chain at first rest) = at
place_in (Ast-F.Not at of) = at
place_in (Ast-F.Minus at of) = at
place_in (Ast-F.Compare at cmp left right) = at
place_in (Ast-F.Find at seek left right) = at
place_in (Ast-F.Calc at first rest) = at
place_in (Ast-F.Between at args) = at
place_in (Ast-F.InValues at args) = at
place_in (Ast-F.Path at text) = at
place_in (Ast-F.Number at value) = at
place_in (Ast-F.Text at bytes) = at
place_in (Ast-F.Truth at value) = at
place_in (Ast-F.All at) = at
place_in (Ast-F.Word at seek text) = at
place_in (Ast-F.FieldTest at path test text) = at

-- the place of a tree's first token, grouping brackets left aside
unfoldable pub place_of : Ast → ℕ
place_of tree = place_in (out-Ast tree)

-- a condition behind the sign that joins it
abbrev pub link : Join → Ast → Joined
link join of = roll-Joined (record { join = join; of = of })

-- a number behind the sign that combines it
abbrev pub term : Arith → Ast → Combined
term arith of = roll-Combined (record { arith = arith; of = of })

-- conditions in a row, which begin at this place: the first alone, or all of them in one chain
abbrev pub chain : ℕ → Ast → List Joined → Ast
chain at first [] = first
chain at first (second ∷ rest) = ast.Chain at first (second ∷ rest)

-- numbers in a row, which begin at this place: the first alone, or all of them in one calculation
abbrev pub calculation : ℕ → Ast → List Combined → Ast
calculation at first [] = first
calculation at first (second ∷ rest) = ast.Calc at first (second ∷ rest)
