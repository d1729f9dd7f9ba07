use Rattle.gr_runner.proofs.Holding.{put_answered, put_full_cut, rest_written}
use Rattle.gr_runner.proofs.write.put.Goals as goal

pub returns-in_err-write_held : goal.returns-in_err-write_held
returns-in_err-write_held g c = put_answered _ _ _ _ _ _ c.from_residual.ensures.0
    (put_full_cut _ _ _ _ _ _ _ c.split_at.ensures.by_index.0 c.hold-2.ensures c.in_err-write_held.ensures.writes)

pub returns : goal.returns
returns g c = rest_written _ _ _ _ _ _ _ _ _ _ c.split_at.ensures.by_index.0 c.hold-2.ensures c.in_ok-write_held.ensures.writes c.in_ok-write_held.ensures.nothing c.write_all.ensures
