use Rattle.std.proofs.Common.{◌≡◌, ◌++◌, take}
use Rattle.gr_key_tree.specs.Inside.Held.{numbers_with}
use Rattle.gr_key_tree.specs.Inside.Parts.{all_pairs}
use Rattle.gr_key_tree.proofs.node.Node.+gather.Given as goal

abbrev pub invariant-loop-at : goal.invariant-loop-at
invariant-loop-at g l = l.numbers.items ≡ l.initial.numbers.items ++ numbers_with l.prefix (all_pairs (take l.at l.children.items))
