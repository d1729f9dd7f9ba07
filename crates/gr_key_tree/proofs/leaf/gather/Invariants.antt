use Rattle.std.proofs.Common.{◌≡◌, ◌++◌, take}
use Rattle.gr_key_tree.specs.Inside.Held.{numbers_with}
use Rattle.gr_key_tree.proofs.leaf.gather.Given as goal

abbrev pub invariant-loop-item : goal.invariant-loop-item
invariant-loop-item g l = l.numbers.items ≡ l.initial.numbers.items ++ numbers_with l.prefix (take l.item-index l.items)
