use Rattle.std.proofs.Common.{◌≡◌, map}
use Rattle.std.specs.List.{count_by}
use Rattle.gr_expr.specs.Seeks.{begins_with, capped}
use Rattle.gr_expr.proofs.seek.words_begun.Given as goal

abbrev pub invariant-loop-word : goal.invariant-loop-word
invariant-loop-word l = l.count ≡ capped (count_by (begins_with l.sought) (map (λ word. word.now) l.yielded))
