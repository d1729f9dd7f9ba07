use Rattle.std.proofs.Common.{◌≡◌, ◌<◌, ◌^◌, ◌∙◌, arith, length, length-append, ap}
use Rattle.std.specs.Arc.{arc_value}
use Rattle.gr_pvec.specs.Inside.Parts.{full_leaves, full_items, tail_items}
use Rattle.gr_pvec.proofs.Filled.{count_full}
use Rattle.gr_pvec.proofs.Turns.{turned}
use Rattle.gr_pvec.proofs.vector.PVec.push.Goals as goal

pub push_full-requires-clause-counted : goal.push_full-requires-clause-counted
push_full-requires-clause-counted g c = count_full (full_leaves c.self.inside.full) c.self.invariant.filled c.self.inside.before c.self.invariant.counted

pub invariant_of-self-2 : goal.invariant_of-self-2
invariant_of-self-2 g c =
    let one : length (arc_value c.in_ok-next.next) ≡ 1 = ap length (c.in_ok-next.ensures.ok ∙ c.in_ok-single.ensures) in
    let whole = ap length c.self.view_is in
    let sum = length-append (full_items c.self.inside.full) (tail_items c.self.inside.tail) in
    let short : c.self.inside.len < 2 ^ 63 = omega (arith, whole, sum, c.self.invariant.counted, c.self.invariant.summed, c.requires) in
    turned c.self.inside.before c.self.inside.len c.self.inside.full c.push_full.new.full c.self.inside.tail c.in_ok-next.next c.self.invariant c.if-filled.false short c.in_ok-push_full.ensures.ok one
