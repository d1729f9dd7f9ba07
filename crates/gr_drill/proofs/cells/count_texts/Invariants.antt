use Rattle.std.proofs.Common.{◌≡◌, map, take}
use Rattle.gr_drill.specs.Inside.Tally.{lent_groups, with_all}
use Rattle.gr_drill.proofs.cells.count_texts.Given as goal
use Rattle.gr_expr.specs.declared.groups.GroupKey.{GroupKey}

-- the texts so far are counted
abbrev pub invariant-loop-text : goal.invariant-loop-text
invariant-loop-text l = lent_groups l.tally.entries ≡ with_all (lent_groups l.initial.tally.entries) (map GroupKey.Text (take l.text-index l.texts))
