-- Scores that are added up and stand still at the highest one.
use Rattle.std.proofs.Common.{◌≡◌, ℕ, ◌+◌, ◌<◌, List, length, get_or, take, sym, ap, ◌∙◌, arith}
use Rattle.std.specs.List.{sum_by}
use Rattle.std.proofs.lemmas.List.Sums.{sum_by_more}
use Rattle.gr_expr.specs.Seeks.{capped}

-- what was added up before may have stood still
capped-capped : (a b : ℕ) → capped (capped a + b) ≡ capped (a + b)
capped-capped a b = omega arith

-- one element more of a list
pub capped-sum_more : {X : Type 0} (f : X → ℕ) (xs : List X) (i : ℕ) (d : X) → i < length xs → capped (capped (sum_by f (take i xs)) + f (get_or xs i d)) ≡ capped (sum_by f (take (i + 1) xs))
capped-sum_more f xs i d inside = capped-capped (sum_by f (take i xs)) (f (get_or xs i d)) ∙ ap capped (sym (sum_by_more f xs i d inside))
