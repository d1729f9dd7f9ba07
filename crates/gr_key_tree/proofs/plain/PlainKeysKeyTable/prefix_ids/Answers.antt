use Rattle.std.proofs.Common.{◌≡◌, ◌++◌, ◌∙◌, subst}
use Rattle.gr_base.specs.Keys.{KeyMap, AreFound}
use Rattle.gr_key_tree.specs.Order.{key_cmp}
use Rattle.gr_key_tree.specs.Inside.Held.{AreHeld, numbers_with}
use Rattle.gr_key_tree.proofs.Rising.{key_total}
use Rattle.gr_key_tree.proofs.Exact.{held_exact, rising_exact}
use Rattle.gr_key_tree.proofs.Maps.{found_in_order, if_ok}
use Rattle.gr_key_tree.proofs.plain.PlainKeysKeyTable.prefix_ids.Goals as goal

pub returns : goal.returns
returns c =
    let pairs = c.self.inside.entries.items in
    let prefix = c.args.prefix.now in
    let numbers = c.gather.new.numbers.items in
    let is : numbers ≡ numbers_with prefix pairs = c.in_ok-gather.ensures ∙ (λ i. c.new-numbers.ensures.items i ++ numbers_with prefix (c.as_slice.ensures.value i)) in
    let held : AreHeld pairs prefix numbers = rw is (held_exact pairs prefix (rising_exact (key_cmp (λ key. 0)) (key_total (λ key. 0)) pairs c.self.invariant)) in
    if_ok c.in_order.result (λ ids order. subst (λ (m : KeyMap). AreFound m prefix ids) c.self.view_is (found_in_order pairs prefix numbers ids held order)) c.in_order.ensures
