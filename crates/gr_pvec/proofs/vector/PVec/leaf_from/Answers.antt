use Rattle.std.proofs.Common.{◌≡◌, ◌+◌, ◌-◌, arith, length, subst}
use Rattle.gr_pvec.specs.Run.{IsRun}
use Rattle.gr_pvec.specs.Inside.Parts.{full_items, tail_items}
use Rattle.gr_pvec.proofs.Runs.{run_right}
use Rattle.gr_pvec.proofs.vector.PVec.leaf_from.Goals as goal

pub returns : goal.returns
returns g c =
    let at : c.args.i ≡ length (full_items c.self.inside.full) + (c.args.i - c.self.inside.before) = omega (arith, c.if-i-self.false, c.self.invariant.counted) in
    subst (IsRun c.tail_from.result.now c.args.i) c.self.view_is (run_right (full_items c.self.inside.full) (tail_items c.self.inside.tail) c.tail_from.result.now c.args.i _ at c.tail_from.ensures)
