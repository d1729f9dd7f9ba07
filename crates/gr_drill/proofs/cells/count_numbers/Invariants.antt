use Rattle.std.proofs.Common.{◌≡◌, map, take}
use Rattle.gr_drill.specs.Inside.Tally.{lent_groups, with_all}
use Rattle.gr_drill.proofs.cells.count_numbers.Given as goal
use Rattle.gr_expr.specs.declared.groups.GroupKey.{GroupKey}

-- the numbers so far are counted
abbrev pub invariant-loop-number : goal.invariant-loop-number
invariant-loop-number l = lent_groups l.tally.entries ≡ with_all (lent_groups l.initial.tally.entries) (map GroupKey.Number (take l.number-index l.numbers))
