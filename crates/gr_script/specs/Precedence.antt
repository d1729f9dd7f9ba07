-- How tightly each operator binds its operands.
use Rattle.std.specs.Prelude.{ℕ}
use Rattle.gr_script.specs.declared.precedence.Precedence.{Precedence}
use Rattle.gr_script.specs.declared.precedence.Precedence.TheVariants.{Bracket, Any, All, Comparison, Sum, Product, Sign}

-- from the loosest to the tightest: each line of the grammar binds more tightly than the one above it
abbrev pub rank : Precedence → ℕ
rank Bracket = 0
rank Any = 1
rank All = 2
rank Comparison = 3
rank Sum = 4
rank Product = 5
rank Sign = 6
