use Rattle.std.proofs.Common.{◌≡◌, ◌<◌, List, get_or, length, rules, subst}
use Rattle.gr_drill.specs.Block.{group_block}
use Rattle.gr_drill.specs.declared.drilldown.Drilldown.{Drilldown}
use Rattle.gr_select.proofs.BlocksLemmas.{blocks-more}
use Rattle.gr_select.proofs.showing.push_blocks.Goals as goal

pub loop-drilldown-preserved : goal.loop-drilldown-preserved
loop-drilldown-preserved g c =
    let layout = c.args.layout.now in
    let tables = g.R.Rows.tables c.args.rows.now in
    let items : c.as_slice-drilldown-items.result.now ≡ layout.drilldowns = c.as_slice-drilldown-items.ensures in
    let shown : c.in_ok-block.block ≡ group_block c.args.schema.now tables c.drilldown-item.result layout.offset layout.limit c.args.hits.now = search rules in
    blocks-more (λ (drilldown : Drilldown). group_block c.args.schema.now tables drilldown layout.offset layout.limit c.args.hits.now)
    c.args.text.now.items layout.drilldowns c.loop-drilldown.drilldown-index c.drilldown-item.result c.drilldown-item.result c.loop-drilldown.text.items c.push_block.new.text.items c.in_ok-block.block
    (subst (λ (xs : List Drilldown). c.loop-drilldown.drilldown-index < length xs) items c.loop-drilldown-test.true)
    (subst (λ (xs : List Drilldown). c.drilldown-item.result ≡ get_or xs c.loop-drilldown.drilldown-index c.drilldown-item.result) items c.drilldown-item.is)
    c.loop-drilldown.invariant shown c.in_ok-push_block.ensures
