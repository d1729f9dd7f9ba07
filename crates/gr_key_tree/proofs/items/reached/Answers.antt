use Rattle.std.proofs.Common.{arith, sym, ap, ◌∙◌}
use Rattle.std.specs.Ordering.{is_gt}
use Rattle.gr_key_tree.specs.Order.{key_cmp}
use Rattle.gr_key_tree.proofs.Rising.{key_total, nothing_reached, nothing_passed, reached_more, passed_more}
use Rattle.gr_key_tree.proofs.items.reached.Goals as goal

pub loop-low-init : goal.loop-low-init
loop-low-init g c =
    let cmp = key_cmp g.K.KeyOrder.state_of in
    let o = key_total g.K.KeyOrder.state_of in
    let xs = c.args.items.now in
    (omega arith, omega arith, nothing_reached cmp o g.T.Item.key_of c.args.key.now xs, nothing_passed cmp o g.T.Item.key_of c.args.key.now xs _ (omega arith))

pub loop-low-preserved-then-is_after : goal.loop-low-preserved-then-is_after
loop-low-preserved-then-is_after g c =
    let cmp = key_cmp g.K.KeyOrder.state_of in
    let o = key_total g.K.KeyOrder.state_of in
    let at = c.index-items-middle in
    let inv = c.loop-low.invariant in
    let lt = c.loop-low-test.true in
    let h1 = inv.0 in let h2 = inv.1 in
    (omega arith, omega arith, inv.2, passed_more cmp o g.T.Item.key_of c.args.items.now c.args.key.now _ at.result c.requires (omega arith) at.is (ap (λ k. is_gt (cmp k c.args.key.now)) (sym c.key.ensures) ∙ sym c.is_after.ensures ∙ c.if-is_after.true))

pub loop-low-preserved : goal.loop-low-preserved
loop-low-preserved g c =
    let cmp = key_cmp g.K.KeyOrder.state_of in
    let o = key_total g.K.KeyOrder.state_of in
    let at = c.index-items-middle in
    let inv = c.loop-low.invariant in
    let lt = c.loop-low-test.true in
    let h1 = inv.0 in let h2 = inv.1 in
    (omega arith, omega arith, reached_more cmp o g.T.Item.key_of c.args.items.now c.args.key.now _ at.result c.requires (omega arith) at.is (ap (λ k. is_gt (cmp k c.args.key.now)) (sym c.key.ensures) ∙ sym c.is_after.ensures ∙ c.if-is_after.false), inv.3)
