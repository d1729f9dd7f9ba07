-- The trees that the grammar makes of its parts.
use Rattle.std.specs.Prelude.{ℕ, Bool, List, ◌==◌, nat_le}
use Rattle.gr_ast.specs.declared.ast.Ast.{Ast}
use Rattle.gr_ast.specs.declared.ast.Ast.TheVariants as ast
use Rattle.gr_ast.specs.declared.ast.Combined.{Combined}
use Rattle.gr_ast.specs.declared.ast.Joined.{Joined}
use Rattle.gr_ast.specs.declared.limits.TheConstants.{BETWEEN_ARGUMENTS, LEAST_IN_VALUES}
use Rattle.gr_ast.specs.declared.operators.FieldOp.{FieldOp}
use Rattle.gr_ast.specs.declared.operators.FieldOp.TheVariants.{Compare, Find}
use Rattle.gr_ast.specs.Trees.{place_of, chain, calculation}
use Rattle.gr_script.specs.declared.grammar.Call.{Call}
use Rattle.gr_script.specs.declared.grammar.Call.TheVariants.{Between, InValues}
use Rattle.gr_script.specs.declared.grammar.Sign.{Sign}
use Rattle.gr_script.specs.declared.grammar.Sign.TheVariants as sign

-- conditions in a row, at the place of the first: it alone, or all of them in one chain
abbrev pub chain_of : Ast → List Joined → Ast
chain_of first links = chain (place_of first) first links

-- numbers in a row, at the place of the first: it alone, or all of them in one calculation
abbrev pub calculation_of : Ast → List Combined → Ast
calculation_of first terms = calculation (place_of first) first terms

-- a comparison or a search
abbrev pub tested : FieldOp → Ast → Ast → Ast
tested (Compare cmp) left right = ast.Compare (place_of left) cmp left right
tested (Find seek) left right = ast.Find (place_of left) seek left right

-- an operand behind a sign that stands at this place
abbrev pub signed : Sign → ℕ → Ast → Ast
signed sign.Not at of = ast.Not at of
signed sign.Minus at of = ast.Minus at of

-- a call whose name stands at this place
abbrev pub called : Call → ℕ → List Ast → Ast
called Between at args = ast.Between at args
called InValues at args = ast.InValues at args

-- whether a call takes so many arguments
abbrev pub takes : Call → ℕ → Bool
takes Between count = count == BETWEEN_ARGUMENTS
takes InValues count = nat_le LEAST_IN_VALUES count
