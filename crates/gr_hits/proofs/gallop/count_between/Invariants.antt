use Rattle.std.proofs.Common.{◌-◌, ◌≡◌, ◌≤◌, true, false, length}
use Rattle.std.specs.List.{AllWithin}
use Rattle.gr_hits.proofs.gallop.count_between.Given as goal

-- all below `low` stand before the key, and none from `high` on
abbrev pub invariant-halves : goal.invariant-halves
invariant-halves g l = record {
  order : l.low ≤ l.high;
  bound : l.high ≤ length l.items;
  before : AllWithin (λ item. g.T.Keyed.is_before item l.key ≡ true) l.items 0 l.low;
  after : AllWithin (λ item. g.T.Keyed.is_before item l.key ≡ false) l.items l.high (length l.items);
}

abbrev pub decreases-halves : goal.decreases-halves
decreases-halves g l = l.high - l.low
