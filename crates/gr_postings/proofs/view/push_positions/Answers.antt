use Rattle.gr_postings.proofs.PositionLemmas.{pushed_count, pushed_more}
use Rattle.gr_postings.proofs.view.push_positions.Goals as goal

pub loop-position-init : goal.loop-position-init
loop-position-init c = pushed_count c.args.bytes.now.items c.args.positions _ c.len.result c.in_ok-push_number.ensures c.len.ensures.exact c.len.ensures.valid

pub loop-position-preserved : goal.loop-position-preserved
loop-position-preserved c =
    pushed_more c.args.bytes.now.items c.args.positions c.loop-position.bytes.items _ c.loop-position.positions c.next.new.self c.loop-position.last c.in-Some.position c.loop-position.invariant c.in-Some.ensures.steps c.in_ok-push_number-2.ensures
