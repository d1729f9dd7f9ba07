use Rattle.std.proofs.Common.{rules, ◌<◌, ◌+◌, ◌*◌, arith, length, sym, subst}
use Rattle.std.specs.Arc.{arc_value}
use Rattle.gr_pvec.specs.Inside.Packed.{leaf_at, AreParts}
use Rattle.gr_pvec.proofs.Arcs.{on_ok, on_err}
use Rattle.gr_pvec.proofs.Owned.{either, part_level, part_unchanged, part_there, part_place, part_leaf, part_put}
use Rattle.gr_pvec.proofs.node.Node.+put.Goals as goal

pub put_below-index_mut-node-requires : goal.put_below-index_mut-node-requires
put_below-index_mut-node-requires g t c = let there = part_there arc_value c.args.level c.args.nodes.now.items c.requires.parts c.args.k c.requires.place in search rules

pub put_below-put-requires : goal.put_below-put-requires
put_below-put-requires g t c κs within =
    let items = c.args.nodes.now.items in
    let y = c.index_mut-node.result.now in
    let is = c.index_mut-node.ensures.value in
    let there = part_there arc_value c.args.level items c.requires.parts c.args.k c.requires.place in
    let low = part_level arc_value c.args.level items c.requires.parts _ y there is in
    let place = part_place arc_value c.args.level items c.requires.parts c.args.k c.requires.place y is in
    let leaf = part_leaf arc_value c.args.level items c.requires.parts c.args.k c.requires.place y is in
    let falls : 3 * (arc_value y).1 + 2 < 3 * c.args.level = omega (arith, low) in
    let inside : c.low_bits.result < length (arc_value y).0 = rw c.low_bits.ensures place in
    let there_too : c.args.j < length (leaf_at (arc_value y).0 c.low_bits.result) = rw (c.low_bits.ensures, leaf) c.requires.within in
    search rules

pub put_below-returns-clause-parts : goal.put_below-returns-clause-parts
put_below-returns-clause-parts g t c =
    let items = c.args.nodes.now.items in
    let y = c.index_mut-node.result.now in
    let is = c.index_mut-node.ensures.value in
    let there = part_there arc_value c.args.level items c.requires.parts c.args.k c.requires.place in
    either c.put.result c.put.ensures.ok c.put.ensures.err
    (λ made. (part_put arc_value c.args.level items c.requires.parts c.args.k c.requires.place c.args.j y c.put.new.node _ is (rw c.low_bits.ensures at made)).0)
    (λ same. subst (AreParts c.args.level) (sym (part_unchanged arc_value c.args.level items c.requires.parts _ y c.put.new.node there is same)) c.requires.parts)

pub put_below-returns-clause-ok : goal.put_below-returns-clause-ok
put_below-returns-clause-ok g t c =
    let items = c.args.nodes.now.items in
    let y = c.index_mut-node.result.now in
    let is = c.index_mut-node.ensures.value in
    on_ok c.put.result (λ made. (part_put arc_value c.args.level items c.requires.parts c.args.k c.requires.place c.args.j y c.put.new.node _ is (rw c.low_bits.ensures at made)).1) c.put.ensures.ok

pub put_below-returns-clause-err : goal.put_below-returns-clause-err
put_below-returns-clause-err g t c =
    let items = c.args.nodes.now.items in
    let y = c.index_mut-node.result.now in
    let is = c.index_mut-node.ensures.value in
    let there = part_there arc_value c.args.level items c.requires.parts c.args.k c.requires.place in
    on_err c.put.result (λ same. part_unchanged arc_value c.args.level items c.requires.parts _ y c.put.new.node there is same) c.put.ensures.err
