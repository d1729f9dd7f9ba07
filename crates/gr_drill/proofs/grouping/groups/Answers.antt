use Rattle.std.proofs.Common.{◌≡◌, IfOk, subst}
use Rattle.gr_drill.proofs.GroupLemmas.{all-counted}
use Rattle.gr_drill.specs.Inside.Tally.{lent_groups}
use Rattle.gr_drill.proofs.grouping.groups.Goals as goal

pub returns : goal.returns
returns g c =
    let made = all-counted (g.R.Rows.tables c.args.rows.now) c.args.key.now c.args.hits.now c.loop-hit.hit-index (lent_groups c.loop-hit.tally.entries) c.loop-hit-test.false c.loop-hit.invariant in
    subst (λ groups. IfOk c.groups_in.result (λ made. made.items ≡ groups)) made c.groups_in.ensures
