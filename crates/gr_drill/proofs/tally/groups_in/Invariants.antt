use Rattle.std.proofs.Common.{◌≡◌, ◌++◌}
use Rattle.gr_drill.specs.Inside.Tally.{lent_groups}
use Rattle.gr_drill.proofs.tally.groups_in.Given as goal

-- the groups so far, and then those of the entries that are left
abbrev pub invariant-loop-key : goal.invariant-loop-key
invariant-loop-key l = l.groups.items ++ lent_groups l.key-iterator ≡ lent_groups l.tally.entries
