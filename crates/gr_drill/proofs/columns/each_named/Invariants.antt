use Rattle.std.proofs.Common.{◌≡◌, drop, map}
use Rattle.std.specs.List.{AllByRecursion}
use Rattle.gr_drill.specs.Drilldowns.{columns_named, gathered}
use Rattle.gr_drill.specs.Inside.Fitting.{IsShownFor}
use Rattle.gr_drill.proofs.GatheredLemmas.{total}
use Rattle.gr_drill.proofs.columns.each_named.Given as goal

-- the columns so far and those of the names that are left are those of all
abbrev pub invariant-loop-name : goal.invariant-loop-name
invariant-loop-name l = record {
  taken :
      total (columns_named l.schema l.to) l.made.items (drop l.name-index (map (λ name. name.now) l.names))
      ≡ gathered (columns_named l.schema l.to) (map (λ name. name.now) l.names);
  fit : AllByRecursion (IsShownFor l.schema) l.made.items;
}
