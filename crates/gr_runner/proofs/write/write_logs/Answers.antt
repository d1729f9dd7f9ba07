use Rattle.std.proofs.Common.{ap}
use Rattle.std.proofs.lemmas.List.{drop_all}
use Rattle.std.specs.List.{flat_map}
use Rattle.gr_runner.specs.declared.report.SessionLog.{SessionLog}
use Rattle.gr_runner.proofs.Holding.{last_written, part_put, part_put_cut}
use Rattle.gr_runner.proofs.Writing.{answered}
use Rattle.gr_runner.proofs.write.write_logs.Goals as goal

pub returns-in_err-put_done : goal.returns-in_err-put_done
returns-in_err-put_done g c = answered _ _ _ _ c.from_residual.ensures.0
    (part_put_cut (λ (log : SessionLog). flat_map (λ reply. reply.text) log.done) _ _ _ _ _ _ _ _ _ c.loop-log.invariant c.loop-log-test.true c.log-item.is (ap (flat_map (λ reply. reply.text)) c.as_slice.ensures) c.in_err-put_done.ensures)

pub loop-log-preserved : goal.loop-log-preserved
loop-log-preserved g c =
    part_put (λ (log : SessionLog). flat_map (λ reply. reply.text) log.done) _ _ _ _ _ _ _ _ _ _ c.loop-log.invariant c.loop-log-test.true c.log-item.is (ap (flat_map (λ reply. reply.text)) c.as_slice.ensures) c.in_ok-put_done.ensures

pub returns : goal.returns
returns g c = last_written _ _ _ _ _ _ (rw (drop_all c.loop-log.log-index c.args.logs.now c.loop-log-test.false) at c.loop-log.invariant) c.write_held.ensures.writes
