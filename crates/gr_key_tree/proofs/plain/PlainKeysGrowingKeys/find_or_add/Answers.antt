use Rattle.gr_key_tree.specs.Order.{key_cmp}
use Rattle.gr_key_tree.proofs.Rising.{key_total}
use Rattle.gr_key_tree.proofs.Adding.{rising_answers}
use Rattle.gr_key_tree.proofs.Maps.{finds_or_adds}
use Rattle.gr_key_tree.proofs.plain.PlainKeysGrowingKeys.find_or_add.Goals as goal

pub invariant_of-self : goal.invariant_of-self
invariant_of-self c =
    rising_answers (key_cmp (λ key. 0)) (key_total (λ key. 0)) c.self.inside.entries.items c.in_ok-key.key c.args.id c.find_or_add.new.items.items c.find_or_add.result c.self.invariant c.find_or_add.ensures.answers

pub returns : goal.returns
returns c =
    finds_or_adds (key_cmp (λ key. 0)) (key_total (λ key. 0)) c.self.inside.entries.items c.find_or_add.new.items.items c.args.self.now c.args.key.now c.args.id c.find_or_add.result c.self.view_is (rw c.in_ok-key.ensures at c.find_or_add.ensures.answers)
