use Rattle.std.proofs.Common.{◌<◌}
use Rattle.std.specs.List.{AllByRecursion}
use Rattle.gr_hits.specs.Hits.{Hit}
use Rattle.hits_bench.proofs.lists.by_chance.Given as goal

abbrev pub invariant-hits : goal.invariant-hits
invariant-hits l = AllByRecursion (λ (hit : Hit). hit.0.0 < l.next) l.list
