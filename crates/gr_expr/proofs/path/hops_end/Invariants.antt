-- the hops that are left lead from here to where all of them do
use Rattle.std.proofs.Common.{◌≡◌, drop}
use Rattle.gr_expr.specs.Paths.{hops_end}
use Rattle.gr_expr.proofs.path.hops_end.Given as goal

abbrev pub invariant-loop-hop : goal.invariant-loop-hop
invariant-loop-hop g l =
    let tables = g.R.Rows.tables l.rows in
    hops_end tables l.table (drop l.hop-index l.hops) l.end ≡ hops_end tables l.fn.table l.hops l.fn.id
