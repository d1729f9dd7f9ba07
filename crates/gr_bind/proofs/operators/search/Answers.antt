use Rattle.std.proofs.Common.{rules}
use Rattle.gr_base.specs.Failure.{result_map}
use Rattle.gr_bind.proofs.Telling.{then_as_err}
use Rattle.gr_bind.specs.Typing.{leaf, sought_path, sought_value, taken}
use Rattle.gr_bind.specs.declared.operand.Operand.{Operand}
use Rattle.gr_expr.specs.declared.typed.Expr.TheVariants as expr
use Rattle.gr_values.specs.declared.path.Path.{Path}
use Rattle.gr_bind.proofs.operators.search.Goals as goal

pub returns-in_err-path : goal.returns-in_err-path
returns-in_err-path c = λ p q is_p is_q written.
    then_as_err c.sought.result (taken (sought_path c.args.seek) p) (c.sought.ensures p is_p)
    (λ (path : Path). result_map (λ value. Operand.Condition (expr.Seek (leaf c.args.schema.now path c.args.seek value))) (sought_value path q)) _ c.in_err-path.field-0.0 c.in_err-path.was (search rules)
