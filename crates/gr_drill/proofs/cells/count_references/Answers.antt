use Rattle.gr_drill.proofs.CountLemmas.{counted-next}
use Rattle.gr_drill.specs.Groups.{reference_key}
use Rattle.gr_drill.specs.Inside.Tally.{lent_groups}
use Rattle.gr_drill.proofs.cells.count_references.Goals as goal

pub loop-id-preserved : goal.loop-id-preserved
loop-id-preserved g c =
    rw (c.in_ok-count_some.ensures, c.reference_key.ensures, c.loop-id.invariant)
    (counted-next (reference_key (g.R.Rows.tables c.args.rows.now) c.args.to) (lent_groups c.args.tally.now.entries) c.args.ids.now c.loop-id.id-index _ c.loop-id-test.true)
