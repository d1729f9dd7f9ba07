use Rattle.std.proofs.Common.{length, sym, ap, ◌∙◌, arith}
use Rattle.gr_columns.specs.Places.{value_at}
use Rattle.gr_columns.proofs.Blocks.{found_full, found_is, past_is}
use Rattle.gr_columns.proofs.places.Places.get.Goals as goal

pub offset_bounds-as_slice-place_in_block : goal.offset_bounds-as_slice-place_in_block
offset_bounds-as_slice-place_in_block g c =
    let size = found_full c.self.inside.blocks c.self.invariant.full c.block_of.result c.in-Some.block.now (sym c.in-Some.ensures) in
    let same = ap length c.as_slice.ensures in
    omega (arith, size, same, c.place_in_block.ensures.within)

pub bounds-as_slice-place_in_block : goal.bounds-as_slice-place_in_block
bounds-as_slice-place_in_block g c =
    let size = found_full c.self.inside.blocks c.self.invariant.full c.block_of.result c.in-Some.block.now (sym c.in-Some.ensures) in
    let same = ap length c.as_slice.ensures in
    omega (arith, size, same, c.place_in_block.ensures.within)

pub returns-in-Some : goal.returns-in-Some
returns-in-Some g c =
    found_is c.self.inside.blocks c.self.invariant.full c.args.i c.block_of.result c.place_in_block.result c.in-Some.block.now c.as_slice.result.now c.index-as_slice-place_in_block.result c.self.inside.default c.block_of.ensures (sym c.in-Some.ensures) c.as_slice.ensures c.place_in_block.ensures.exact c.index-as_slice-place_in_block.is
    ∙ ap (λ places. value_at places c.args.i) c.self.view_is

pub returns-in-None : goal.returns-in-None
returns-in-None g c = past_is c.self.inside.blocks c.self.invariant.full c.args.i c.block_of.result c.self.inside.default c.block_of.ensures (sym c.in-None.ensures) ∙ ap (λ places. value_at places c.args.i) c.self.view_is
