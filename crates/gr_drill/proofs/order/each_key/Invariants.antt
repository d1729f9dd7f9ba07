use Rattle.std.proofs.Common.{◌≡◌, drop, map}
use Rattle.gr_base.specs.Failure.{result_map}
use Rattle.gr_drill.specs.Drilldowns.{alone, gathered, sort_key}
use Rattle.gr_drill.proofs.GatheredLemmas.{total}
use Rattle.gr_drill.proofs.order.each_key.Given as goal

-- the keys so far and those of the texts that are left are those of all
abbrev pub invariant-loop-text : goal.invariant-loop-text
invariant-loop-text l = record {
  taken :
      total (λ text. result_map alone (sort_key l.schema l.to text)) l.keys.items (drop l.text-index (map (λ text. text.now) l.texts))
      ≡ gathered (λ text. result_map alone (sort_key l.schema l.to text)) (map (λ text. text.now) l.texts);
}
