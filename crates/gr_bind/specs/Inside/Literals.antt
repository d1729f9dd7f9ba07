-- The value that a tree writes.
use Rattle.std.specs.Prelude.{ℕ, pos, neg_ℤ, Option, Some, None}
use Rattle.std.specs.Option.{option_map}
use Rattle.gr_ast.specs.Trees.{Layer}
use Rattle.gr_ast.specs.declared.ast.Ast.{Ast, out-Ast}
use Rattle.gr_ast.specs.declared.ast.Ast.TheOpen.{Ast-F}
use Rattle.gr_expr.specs.declared.typed.Literal.{Literal}

-- the digits of a level without a sign
abbrev pub digits_in : Layer → Option ℕ
digits_in (Ast-F.Number at value) = Some value
digits_in _ = None

-- the digits of a number without a sign
abbrev pub digits_of : Ast → Option ℕ
digits_of tree = digits_in (out-Ast tree)

-- the value that a level writes, a number with its sign
abbrev pub literal_in : Layer → Option Literal
literal_in (Ast-F.Number at value) = Some (Literal.Number (pos value))
literal_in (Ast-F.Text at bytes) = Some (Literal.Text bytes)
literal_in (Ast-F.Truth at value) = Some (Literal.Truth value)
literal_in (Ast-F.Minus at of) = option_map (λ n. Literal.Number (neg_ℤ (pos n))) (digits_of of)
literal_in _ = None

-- the value that a tree writes
abbrev pub literal_of : Ast → Option Literal
literal_of tree = literal_in (out-Ast tree)
