use Rattle.std.proofs.Common.{◌-◌, ◌≡◌, ◌≤◌, true, length}
use Rattle.std.specs.List.{AllWithin}
use Rattle.gr_hits.proofs.gallop.count_before.Given as goal

-- all below `low` stand before the key
abbrev pub invariant-steps : goal.invariant-steps
invariant-steps g l = record {
  step : 1 ≤ l.step;
  bound : l.low ≤ length l.items;
  before : AllWithin (λ item. g.T.Keyed.is_before item l.key ≡ true) l.items 0 l.low;
}

abbrev pub decreases-steps : goal.decreases-steps
decreases-steps g l = length l.items - l.low
