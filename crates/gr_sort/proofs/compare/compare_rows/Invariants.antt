use Rattle.std.proofs.Common.{◌≡◌, drop, map}
use Rattle.gr_sort.specs.Inside.Rows.{values_cmp, worth}
use Rattle.gr_sort.proofs.compare.compare_rows.Given as goal

-- no key so far tells the rows apart
abbrev pub invariant-loop-at : goal.invariant-loop-at
invariant-loop-at l =
    values_cmp (drop l.at l.keys) (drop l.at (map worth l.left.values.items)) (drop l.at (map worth l.right.values.items))
    ≡ values_cmp l.keys (map worth l.left.values.items) (map worth l.right.values.items)
