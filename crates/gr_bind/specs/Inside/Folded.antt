-- Trees as parts, named so that what a proof reads of them is short.
use Rattle.std.specs.Prelude.{ℕ, Result, List, map}
use Rattle.gr_ast.specs.declared.ast.Ast.{Ast}
use Rattle.gr_ast.specs.declared.ast.Combined.{Combined, out-Combined}
use Rattle.gr_ast.specs.declared.ast.Joined.{Joined, out-Joined}
use Rattle.gr_ast.specs.declared.operators.Arith.{Arith}
use Rattle.gr_ast.specs.declared.operators.Join.{Join}
use Rattle.gr_base.specs.declared.fault.Fault.{Fault}
use Rattle.gr_bind.specs.Kinds.{is_same_kind}
use Rattle.gr_bind.specs.Typing.{Part, between, combined, in_values, joined, part_of, taken, term_where}
use Rattle.gr_bind.specs.declared.binder.Binder.{Binder}
use Rattle.gr_bind.specs.declared.operand.Operand.{Operand}
use Rattle.gr_bind.specs.declared.operand.ValueKind.{ValueKind}
use Rattle.gr_expr.specs.declared.typed.CombinedTerm.{CombinedTerm}
use Rattle.gr_expr.specs.declared.typed.JoinedExpr.{JoinedExpr}
use Rattle.gr_expr.specs.declared.typed.Term.{Term}

-- a tree as a part
unfoldable pub part_at : Binder → Ast → Part
part_at binder tree = part_of binder.schema.now binder.table binder.columns tree

-- a condition behind what joins it, as a part
unfoldable pub joined_part : Binder → Joined → Join × Part
joined_part binder link = ((out-Joined link).join, part_at binder (out-Joined link).of)

-- a number behind its sign, as a part
unfoldable pub combined_part : Binder → Combined → Arith × Part
combined_part binder term = ((out-Combined term).arith, part_at binder (out-Combined term).of)

-- a condition behind what joins it
unfoldable pub link_at : Binder → Joined → Result JoinedExpr Fault
link_at binder link = joined (joined_part binder link)

-- a number behind its sign
unfoldable pub term_at : Binder → Combined → Result CombinedTerm Fault
term_at binder term = combined (combined_part binder term)

-- a value of a kind
unfoldable pub value_at : Binder → ValueKind → Ast → Result Term Fault
value_at binder kind tree = taken (term_where (is_same_kind kind)) (part_at binder tree)

-- the arguments of `between`
unfoldable pub between_at : Binder → ℕ → List Ast → Result Operand Fault
between_at binder at args = between at (map (part_at binder) args)

-- the arguments of `in_values`
unfoldable pub among_at : Binder → ℕ → List Ast → Result Operand Fault
among_at binder at args = in_values at (map (part_at binder) args)
