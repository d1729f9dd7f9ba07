use Rattle.std.proofs.Common.{◌≡◌, drop}
use Rattle.gr_drill.specs.Block.{group_cmp}
use Rattle.gr_drill.proofs.worths.compare.Given as goal

-- no key so far tells the groups apart
abbrev pub invariant-loop-key : goal.invariant-loop-key
invariant-loop-key g l = group_cmp (g.R.Rows.tables l.rows) (drop l.key-index l.keys) l.left l.right ≡ group_cmp (g.R.Rows.tables l.rows) l.keys l.left l.right
