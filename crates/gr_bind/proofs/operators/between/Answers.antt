use Rattle.std.proofs.Common.{rules}
use Rattle.std.specs.Prelude.{Bool}
use Rattle.gr_base.specs.Failure.{result_map}
use Rattle.gr_bind.proofs.Ranges.{range_is, with_value}
use Rattle.gr_bind.proofs.Telling.{map_as, map_as_err, then_as_err, then_told}
use Rattle.gr_bind.specs.Inside.Bounds.{bound}
use Rattle.gr_bind.specs.Kinds.{is_ordered}
use Rattle.gr_bind.specs.Typing.{taken, value_where}
use Rattle.gr_bind.specs.declared.operand.Operand.{Operand}
use Rattle.gr_expr.specs.declared.typed.Expr.TheVariants as expr
use Rattle.gr_expr.specs.declared.typed.Term.{Term}
use Rattle.gr_bind.proofs.operators.between.Goals as goal

pub returns-in_err-kind : goal.returns-in_err-kind
returns-in_err-kind c = λ at v l wl h wh is_v is_l is_wl is_h is_wh.
    range_is at v l wl h wh _
    (then_as_err c.compared.result (taken (value_where is_ordered) v) (c.compared.ensures v is_v) (with_value l wl h wh) _ c.in_err-kind.field-0.0 c.in_err-kind.was (search rules))

pub returns-in_err-low : goal.returns-in_err-low
returns-in_err-low c = λ at v l wl h wh is_v is_l is_wl is_h is_wh.
    range_is at v l wl h wh _
    (then_told c.compared.result (taken (value_where is_ordered) v) (c.compared.ensures v is_v) (with_value l wl h wh) (c.in_ok-kind.kind, c.in_ok-kind.value) _ c.in_ok-kind.was
    (then_as_err c.bound.result (bound c.in_ok-kind.kind l wl) (c.bound.ensures l wl is_l is_wl) (λ (low : Term × Bool). result_map (λ (high : Term × Bool). Operand.Condition (expr.Between c.in_ok-kind.value low.0 low.1 high.0 high.1)) (bound c.in_ok-kind.kind h wh)) _ c.in_err-low.field-0.0 c.in_err-low.was (search rules)))

pub returns-in_err-high : goal.returns-in_err-high
returns-in_err-high c = λ at v l wl h wh is_v is_l is_wl is_h is_wh.
    range_is at v l wl h wh _
    (then_told c.compared.result (taken (value_where is_ordered) v) (c.compared.ensures v is_v) (with_value l wl h wh) (c.in_ok-kind.kind, c.in_ok-kind.value) _ c.in_ok-kind.was
    (then_told c.bound.result (bound c.in_ok-kind.kind l wl) (c.bound.ensures l wl is_l is_wl) (λ (low : Term × Bool). result_map (λ (high : Term × Bool). Operand.Condition (expr.Between c.in_ok-kind.value low.0 low.1 high.0 high.1)) (bound c.in_ok-kind.kind h wh)) (c.in_ok-low.low, c.in_ok-low.with_low) _ c.in_ok-low.was
    (map_as_err c.bound-2.result (bound c.in_ok-kind.kind h wh) (c.bound-2.ensures h wh is_h is_wh) (λ (high : Term × Bool). Operand.Condition (expr.Between c.in_ok-kind.value c.in_ok-low.low c.in_ok-low.with_low high.0 high.1)) _ c.in_err-high.field-0.0 c.in_err-high.was (search rules))))

pub returns : goal.returns
returns c = λ at v l wl h wh is_v is_l is_wl is_h is_wh.
    range_is at v l wl h wh _
    (then_told c.compared.result (taken (value_where is_ordered) v) (c.compared.ensures v is_v) (with_value l wl h wh) (c.in_ok-kind.kind, c.in_ok-kind.value) _ c.in_ok-kind.was
    (then_told c.bound.result (bound c.in_ok-kind.kind l wl) (c.bound.ensures l wl is_l is_wl) (λ (low : Term × Bool). result_map (λ (high : Term × Bool). Operand.Condition (expr.Between c.in_ok-kind.value low.0 low.1 high.0 high.1)) (bound c.in_ok-kind.kind h wh)) (c.in_ok-low.low, c.in_ok-low.with_low) _ c.in_ok-low.was
    (map_as c.bound-2.result (bound c.in_ok-kind.kind h wh) (c.bound-2.ensures h wh is_h is_wh) (λ (high : Term × Bool). Operand.Condition (expr.Between c.in_ok-kind.value c.in_ok-low.low c.in_ok-low.with_low high.0 high.1)) _ (c.in_ok-high.high, c.in_ok-high.with_high) c.in_ok-high.was (search rules))))
