use Rattle.std.proofs.Common.{◌≡◌, take}
use Rattle.std.specs.List.{count_by}
use Rattle.gr_values.specs.declared.value.Key.{Key}
use Rattle.gr_expr.specs.Seeks.{capped, is_written}
use Rattle.gr_expr.proofs.seek.numbers_found.Given as goal

abbrev pub invariant-loop-number : goal.invariant-loop-number
invariant-loop-number l = l.count ≡ capped (count_by (λ number. is_written l.sought (Key.Number number)) (take l.number-index l.numbers))
