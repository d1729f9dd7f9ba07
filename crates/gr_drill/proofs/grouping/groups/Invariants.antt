use Rattle.std.proofs.Common.{◌≡◌, [], take}
use Rattle.gr_drill.specs.Groups.{counted}
use Rattle.gr_drill.specs.Inside.Tally.{lent_groups, with_all}
use Rattle.gr_drill.proofs.grouping.groups.Given as goal

-- the groups of the hits so far
abbrev pub invariant-loop-hit : goal.invariant-loop-hit
invariant-loop-hit g l = lent_groups l.tally.entries ≡ with_all [] (counted (g.R.Rows.tables l.rows) l.key (take l.hit-index l.hits))
