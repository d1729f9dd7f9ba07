use Rattle.gr_session.specs.declared.session.Done.{Done}
use Rattle.gr_runner.proofs.Holding.{part_put, part_put_cut, put_answered}
use Rattle.gr_runner.proofs.write.put_done.Goals as goal

pub returns-in_err-put : goal.returns-in_err-put
returns-in_err-put g c = put_answered _ _ _ _ _ _ c.from_residual.ensures.0
    (part_put_cut (λ (reply : Done). reply.text) _ _ _ _ _ _ _ _ _ c.loop-reply.invariant c.loop-reply-test.true c.reply-item.is c.as_slice.ensures c.in_err-put.ensures)

pub loop-reply-preserved : goal.loop-reply-preserved
loop-reply-preserved g c =
    part_put (λ (reply : Done). reply.text) _ _ _ _ _ _ _ _ _ _ c.loop-reply.invariant c.loop-reply-test.true c.reply-item.is c.as_slice.ensures c.in_ok-put.ensures
