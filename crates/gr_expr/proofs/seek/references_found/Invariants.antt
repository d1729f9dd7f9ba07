use Rattle.std.proofs.Common.{◌≡◌, take}
use Rattle.std.specs.List.{count_by}
use Rattle.gr_expr.specs.Seeks.{capped, is_referred}
use Rattle.gr_expr.proofs.seek.references_found.Given as goal

abbrev pub invariant-loop-id : goal.invariant-loop-id
invariant-loop-id g l = l.count ≡ capped (count_by (is_referred (g.R.Rows.tables l.rows) l.path l.sought) (take l.id-index l.ids))
