use Rattle.std.proofs.Common.{◌<◌, length, sym, ap, ◌∙◌, subst, arith}
use Rattle.gr_columns.proofs.Blocks.{found_full, block_there, put_is}
use Rattle.gr_columns.proofs.Outcomes.{on_ok}
use Rattle.gr_columns.proofs.places.put.Goals as goal

pub changed-requires : goal.changed-requires
changed-requires g c =
    let size = found_full c.args.blocks.now c.requires.full c.block_of-k.result c.in-Some.block.now (sym c.in-Some.ensures) in
    let same = ap length c.as_slice.ensures in
    omega (arith, size, same, c.place_in_block.ensures.within)

pub unreachable-requires : goal.unreachable-requires
unreachable-requires g c = block_there c.args.blocks.now c.block_of-k.result (subst (λ k. k < length c.args.blocks.now) (sym c.block_of-k.ensures) c.requires.there) (sym c.in-None.ensures)

pub returns-clause-ok : goal.returns-clause-ok
returns-clause-ok g c =
    let is = put_is c.args.blocks.now c.args.i c.block_of-k.result c.place_in_block.result c.in-Some.block.now c.as_slice.result.now c.in_ok-changed-in-Some.changed _ c.args.value c.block_of-k.ensures c.place_in_block.ensures.exact (sym c.in-Some.ensures) c.as_slice.ensures c.in_ok-changed-in-Some.ensures c.in_ok-new-in-Some.ensures.ok in
    on_ok c.set.result (λ made. made ∙ is) c.set.ensures.ok
