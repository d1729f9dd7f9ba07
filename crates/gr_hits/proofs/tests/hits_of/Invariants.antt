use Rattle.std.proofs.Common.{◌<◌}
use Rattle.std.specs.List.{AllByRecursion}
use Rattle.gr_hits.specs.Hits.{Hit}
use Rattle.gr_hits.proofs.tests.hits_of.Given as goal

abbrev pub invariant-pairs : goal.invariant-pairs
invariant-pairs l = AllByRecursion (λ (hit : Hit). hit.0.0 < l.next) l.list
