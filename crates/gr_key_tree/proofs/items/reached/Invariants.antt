use Rattle.std.proofs.Common.{◌-◌, ◌≤◌, length, take, drop}
use Rattle.gr_key_tree.specs.Order.{key_cmp}
use Rattle.gr_key_tree.specs.Inside.Rising.{UpTo, Above}
use Rattle.gr_key_tree.proofs.items.reached.Given as goal

abbrev pub invariant-loop-low : goal.invariant-loop-low
invariant-loop-low g l =
    (l.low ≤ l.high) × (l.high ≤ length l.items)
    × UpTo (key_cmp g.K.KeyOrder.state_of) g.T.Item.key_of l.key (take l.low l.items)
    × Above (key_cmp g.K.KeyOrder.state_of) g.T.Item.key_of l.key (drop l.high l.items)

abbrev pub decreases-loop-low : goal.decreases-loop-low
decreases-loop-low g l = l.high - l.low
