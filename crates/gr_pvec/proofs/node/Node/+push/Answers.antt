use Rattle.std.proofs.Common.{rules, ◌≡◌, ◌<◌, ◌≤◌, ◌+◌, ◌*◌, ◌/◌, arith, ◌∙◌, length, map, sym, subst}
use Rattle.std.specs.Arc.{arc_value}
use Rattle.gr_pvec.specs.Inside.Packed.{span, AreParts}
use Rattle.gr_pvec.proofs.Arcs.{on_ok, on_err}
use Rattle.gr_pvec.proofs.Owned.{either, part_level, part_unchanged, part_count, part_room, part_pushed, part_added}
use Rattle.gr_pvec.proofs.node.Node.+push.Goals as goal

pub push_below-push-requires : goal.push_below-push-requires
push_below-push-requires g t c κs within =
    let items = c.args.nodes.now.items in
    let y = c.index_mut-node.result.now in
    let is = c.index_mut-node.ensures.value in
    let there : c.args.n / span c.args.level < length c.args.nodes.now.items = omega (arith, c.if-last-len.true, c.len.ensures) in
    let low = part_level arc_value c.args.level items c.requires.parts _ y there is in
    let count = part_count arc_value c.args.level items c.requires.parts c.args.n c.requires.counted y there is in
    let room = part_room arc_value c.args.level items c.requires.parts c.args.n c.requires.counted y there is in
    let exact : c.low_bits.result ≡ length (arc_value y).0 = c.low_bits.ensures ∙ count in
    let less : c.low_bits.result < span ((arc_value y).1 + 1) = rw c.low_bits.ensures room in
    let falls : 3 * (arc_value y).1 + 2 < 3 * c.args.level = omega (arith, low) in
    search rules

pub push_below-returns-then-last-len-clause-parts : goal.push_below-returns-then-last-len-clause-parts
push_below-returns-then-last-len-clause-parts g t c =
    let items = c.args.nodes.now.items in
    let y = c.index_mut-node.result.now in
    let is = c.index_mut-node.ensures.value in
    let there : c.args.n / span c.args.level < length c.args.nodes.now.items = omega (arith, c.if-last-len.true, c.len.ensures) in
    either c.push.result c.push.ensures.ok c.push.ensures.err
    (λ made. (part_pushed arc_value c.args.level items c.requires.parts c.args.n c.requires.counted y c.push.new.node _ there is made).0)
    (λ same. subst (AreParts c.args.level) (sym (part_unchanged arc_value c.args.level items c.requires.parts _ y c.push.new.node there is same)) c.requires.parts)

pub push_below-returns-then-last-len-clause-ok : goal.push_below-returns-then-last-len-clause-ok
push_below-returns-then-last-len-clause-ok g t c =
    let items = c.args.nodes.now.items in
    let y = c.index_mut-node.result.now in
    let is = c.index_mut-node.ensures.value in
    let there : c.args.n / span c.args.level < length c.args.nodes.now.items = omega (arith, c.if-last-len.true, c.len.ensures) in
    on_ok c.push.result (λ made. (part_pushed arc_value c.args.level items c.requires.parts c.args.n c.requires.counted y c.push.new.node _ there is made).1) c.push.ensures.ok

pub push_below-returns-then-last-len-clause-err : goal.push_below-returns-then-last-len-clause-err
push_below-returns-then-last-len-clause-err g t c =
    let items = c.args.nodes.now.items in
    let y = c.index_mut-node.result.now in
    let is = c.index_mut-node.ensures.value in
    let there : c.args.n / span c.args.level < length c.args.nodes.now.items = omega (arith, c.if-last-len.true, c.len.ensures) in
    on_err c.push.result (λ same. part_unchanged arc_value c.args.level items c.requires.parts _ y c.push.new.node there is same) c.push.ensures.err

pub push_below-returns-clause-parts : goal.push_below-returns-clause-parts
push_below-returns-clause-parts g t c =
    let items = c.args.nodes.now.items in
    let made = c.in_ok-child-2.ensures.ok ∙ c.in_ok-child.ensures in
    let over : length items ≤ c.args.n / span c.args.level = omega (arith, c.if-last-len.false, c.len.ensures) in
    subst (λ grown. AreParts c.args.level (map arc_value grown)) (sym c.in_ok-push.ensures.items)
    (part_added arc_value c.args.level items c.requires.parts c.args.n c.requires.counted c.in_ok-child-2.child _ over c.requires.room made).0
