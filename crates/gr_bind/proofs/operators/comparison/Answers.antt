use Rattle.std.proofs.Common.{rules}
use Rattle.gr_base.specs.Failure.{result_map}
use Rattle.gr_bind.proofs.Telling.{map_as_err, then_as_err, then_told}
use Rattle.gr_bind.specs.Kinds.{is_compared, is_same_kind}
use Rattle.gr_bind.specs.Typing.{taken, term_where, value_where}
use Rattle.gr_bind.specs.declared.operand.Operand.{Operand}
use Rattle.gr_bind.specs.declared.operand.ValueKind.{ValueKind}
use Rattle.gr_expr.specs.declared.typed.Expr.TheVariants as expr
use Rattle.gr_expr.specs.declared.typed.Term.{Term}
use Rattle.gr_bind.proofs.operators.comparison.Goals as goal

pub returns-in_err-kind : goal.returns-in_err-kind
returns-in_err-kind c = λ p q is_p is_q.
    then_as_err c.compared.result (taken (value_where (is_compared c.args.cmp)) p) (c.compared.ensures p is_p)
    (λ (first : ValueKind × Term). result_map (λ second. Operand.Condition (expr.Compare c.args.cmp first.1 second)) (taken (term_where (is_same_kind first.0)) q)) _ c.in_err-kind.field-0.0 c.in_err-kind.was (search rules)

pub returns-in_err-second : goal.returns-in_err-second
returns-in_err-second c = λ p q is_p is_q.
    then_told c.compared.result (taken (value_where (is_compared c.args.cmp)) p) (c.compared.ensures p is_p)
    (λ (first : ValueKind × Term). result_map (λ second. Operand.Condition (expr.Compare c.args.cmp first.1 second)) (taken (term_where (is_same_kind first.0)) q)) (c.in_ok-kind.kind, c.in_ok-kind.first) _ c.in_ok-kind.was
    (map_as_err c.of_kind.result (taken (term_where (is_same_kind c.in_ok-kind.kind)) q) (c.of_kind.ensures q is_q) (λ second. Operand.Condition (expr.Compare c.args.cmp c.in_ok-kind.first second)) _ c.in_err-second.field-0.0 c.in_err-second.was (search rules))
