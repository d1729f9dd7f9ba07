use Rattle.std.proofs.Common.{◌≡◌, take}
use Rattle.std.specs.List.{count_by}
use Rattle.gr_values.specs.declared.value.Key.{Key}
use Rattle.gr_expr.specs.Seeks.{capped, is_written}
use Rattle.gr_expr.proofs.seek.texts_found.Given as goal

abbrev pub invariant-loop-text : goal.invariant-loop-text
invariant-loop-text l = l.count ≡ capped (count_by (λ text. is_written l.sought (Key.Text text)) (take l.text-index l.texts))
