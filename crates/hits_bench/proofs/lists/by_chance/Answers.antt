use Rattle.std.proofs.Common.{◌+◌, arith}
use Rattle.hits_bench.proofs.Below.{all_below-push}
use Rattle.hits_bench.proofs.lists.by_chance.Goals as goal

pub hits-preserved : goal.hits-preserved
hits-preserved c =
    rw (c.in_ok-push.ensures.ok) (all_below-push c.hits.list _ c.hits.next (c.saturating_add-id.result + 1) (omega arith) (omega arith) c.hits.invariant)
