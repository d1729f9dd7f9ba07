use Rattle.gr_sort.specs.Order.{hit_cmp, ordered}
use Rattle.gr_sort.proofs.OrderLemmas.{IsPermutation-in_order, IsUp-in_order, sorted-IsUp}
use Rattle.gr_sort.proofs.TotalLemmas.{hit_weak}
use Rattle.gr_sort.proofs.law.order_keeps_and_sorts.Goals as goal

pub returns-clause-same : goal.returns-clause-same
returns-clause-same c = λ tables keys hits. IsPermutation-in_order (hit_cmp tables keys) hits

pub returns-clause-sorted : goal.returns-clause-sorted
returns-clause-sorted c = λ tables keys hits.
    sorted-IsUp (hit_cmp tables keys) (hit_weak tables keys) (ordered tables keys hits) (IsUp-in_order (hit_cmp tables keys) (hit_weak tables keys) hits)
