use Rattle.std.proofs.Common.{◌≡◌, ◌∙◌, ◌++◌}
use Rattle.gr_key_tree.specs.Order.{key_cmp}
use Rattle.std.specs.Arc.{arc_value}
use Rattle.gr_key_tree.specs.Inside.Held.{numbers_with}
use Rattle.gr_key_tree.proofs.Rising.{key_total}
use Rattle.gr_key_tree.proofs.Exact.{held_exact, rising_exact}
use Rattle.gr_key_tree.proofs.Maps.{held_nil}
use Rattle.gr_key_tree.proofs.tree.numbers_with.Goals as goal

pub returns-in_ok-gather-in-Some : goal.returns-in_ok-gather-in-Some
returns-in_ok-gather-in-Some g c =
    let cmp = key_cmp g.K.KeyOrder.state_of in
    let pairs = (arc_value c.in-Some.node).pairs in
    let prefix = c.args.prefix.now in
    let is : c.gather.new.numbers.items ≡ numbers_with prefix pairs = c.in_ok-gather-in-Some.ensures.held ∙ (λ i. c.new-numbers.ensures.items i ++ numbers_with prefix (c.deref.ensures i).pairs) in
    rw (c.in-Some.is, is) (held_exact pairs prefix (rising_exact cmp (key_total g.K.KeyOrder.state_of) pairs (rw c.deref.ensures at c.gather.ensures.rising)))

pub returns-in-None : goal.returns-in-None
returns-in-None g c = rw (c.in-None.is, c.new-numbers.ensures.items) (held_nil c.args.prefix.now)
