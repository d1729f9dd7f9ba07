use Rattle.std.proofs.Common.{◌≡◌, ◌++◌, map, take}
use Rattle.std.specs.List.{flat_map}
use Rattle.gr_drill.specs.Block.{group_block}
use Rattle.gr_select.specs.Inside.Layouts.{behind_comma}
use Rattle.gr_select.proofs.showing.push_blocks.Given as goal

-- each drilldown so far has written its block
abbrev pub invariant-loop-drilldown : goal.invariant-loop-drilldown
invariant-loop-drilldown g l =
    l.text.items ≡ l.initial.text.items ++ flat_map behind_comma (map (λ drilldown. group_block l.schema (g.R.Rows.tables l.rows) drilldown l.layout.offset l.layout.limit l.hits) (take l.drilldown-index l.layout.drilldowns))
