use Rattle.std.proofs.Common.{rules}
use Rattle.gr_base.specs.Failure.{result_map}
use Rattle.gr_bind.proofs.Telling.{then_as_err}
use Rattle.gr_bind.specs.Kinds.{is_same_kind}
use Rattle.gr_bind.specs.Typing.{end_part, taken, term_where}
use Rattle.gr_expr.specs.declared.typed.Term.{Term}
use Rattle.gr_bind.proofs.operators.bound.Goals as goal

pub returns-in_err-of : goal.returns-in_err-of
returns-in_err-of c = λ p w is_p told.
    then_as_err c.of_kind.result (taken (term_where (is_same_kind c.args.kind)) p) (c.of_kind.ensures p is_p)
    (λ (end : Term). result_map (λ included. (end, included)) (end_part w)) _ c.in_err-of.field-0.0 c.in_err-of.was (search rules)
