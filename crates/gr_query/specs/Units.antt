-- Units that are joined, and the trees that they make.
use Rattle.std.specs.Prelude.{ℕ, List, [], ◌++◌}
use Rattle.gr_ast.specs.declared.ast.Ast.{Ast}
use Rattle.gr_ast.specs.declared.ast.Joined.{Joined}
use Rattle.gr_ast.specs.Trees.{chain}
use Rattle.gr_query.specs.declared.frame.Units.{Units}

-- a unit alone, where the first token that is no opening bracket is at this place
abbrev pub alone : ℕ → Ast → Units
alone at first = record { at = at; first = first; links = [] }

-- units with further ones behind them
abbrev pub with_links : Units → List Joined → Units
with_links of links = record { at = of.at; first = of.first; links = of.links ++ links }

-- the tree of units
abbrev pub tree_of : Units → Ast
tree_of of = chain of.at of.first of.links
