use Rattle.std.proofs.Common.{◌≡◌, ◌++◌, take}
use Rattle.gr_key_tree.proofs.items.copy_to.Given as goal

abbrev pub invariant-loop-item : goal.invariant-loop-item
invariant-loop-item g l = l.made.items ≡ l.initial.made.items ++ take l.item-index l.items
