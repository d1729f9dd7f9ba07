-- Ends of ranges.
use Rattle.std.specs.Prelude.{Bool, Result}
use Rattle.gr_base.specs.Failure.{result_map, result_then}
use Rattle.gr_base.specs.declared.fault.Fault.{Fault}
use Rattle.gr_bind.specs.Kinds.{is_same_kind}
use Rattle.gr_bind.specs.Typing.{Part, end_part, taken, term_where}
use Rattle.gr_bind.specs.declared.operand.ValueKind.{ValueKind}
use Rattle.gr_expr.specs.declared.typed.Term.{Term}

-- an end of this kind, and whether it is included
abbrev pub bound : ValueKind → Part → Part → Result (Term × Bool) Fault
bound kind of with = result_then (λ end. result_map (λ included. (end, included)) (end_part with)) (taken (term_where (is_same_kind kind)) of)
