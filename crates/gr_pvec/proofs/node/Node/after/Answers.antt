use Rattle.std.proofs.Common.{sym, subst, arith}
use Rattle.gr_pvec.specs.Run.{IsRun}
use Rattle.gr_pvec.proofs.Packed.{past_none}
use Rattle.gr_pvec.proofs.Filled.{run_full, leaf_there, leaf_is_full}
use Rattle.gr_pvec.proofs.node.Node.after.Goals as goal

pub after-requires : goal.after-requires
after-requires g c =
    let size = leaf_is_full c.args.self.now.0 c.requires.full _ c.in-Some.leaf.now (sym c.in-Some.ensures) in
    let bits = c.low_bits.ensures in
    omega (arith, size, bits)

pub unreachable-requires : goal.unreachable-requires
unreachable-requires g c =
    let there = leaf_there c.args.self.now.0 c.requires.full c.args.i c.requires.within in
    let over = past_none c.args.self.now.0 _ (sym c.in-None.ensures) in
    omega (arith, there, over)

pub returns : goal.returns
returns g c = run_full c.args.self.now.0 c.requires.full c.after.result.now c.args.i c.in-Some.leaf.now (sym c.in-Some.ensures) (subst (λ j. IsRun c.after.result.now j c.in-Some.leaf.now) c.low_bits.ensures c.after.ensures)
