use Rattle.std.proofs.Common.{◌≡◌, drop, map, option_copied}
use Rattle.std.specs.List.{AllByRecursion}
use Rattle.gr_base.specs.Failure.{result_map}
use Rattle.gr_drill.specs.Drilldowns.{alone, drilldown_of, gathered}
use Rattle.gr_drill.specs.Inside.Fitting.{IsShowableFor}
use Rattle.gr_drill.proofs.GatheredLemmas.{total}
use Rattle.gr_drill.proofs.drilldown.each_drilldown.Given as goal

-- the drilldowns so far and those by the keys that are left are those by all
abbrev pub invariant-loop-key : goal.invariant-loop-key
invariant-loop-key l = record {
  taken :
      total (λ key. result_map alone (drilldown_of l.schema l.table (option_copied l.columns) (option_copied l.order) key)) l.made.items (drop l.key-index (map (λ key. key.now) l.keys))
      ≡ gathered (λ key. result_map alone (drilldown_of l.schema l.table (option_copied l.columns) (option_copied l.order) key)) (map (λ key. key.now) l.keys);
  fit : AllByRecursion (IsShowableFor l.schema) l.made.items;
}
