use Rattle.std.proofs.Common.{◌≡◌, take}
use Rattle.std.specs.List.{sum_by}
use Rattle.gr_expr.specs.Score.{weighted_score}
use Rattle.gr_expr.specs.Seeks.{capped}
use Rattle.gr_expr.proofs.scores.weighted.Given as goal

abbrev pub invariant-loop-leaf : goal.invariant-loop-leaf
invariant-loop-leaf g l = l.total ≡ capped (sum_by (weighted_score (g.R.Rows.tables l.rows) l.id) (take l.leaf-index l.leaves))
