use Rattle.std.proofs.Common.{sym, ◌∙◌}
use Rattle.gr_expr.proofs.Hops.{hops_stop}
use Rattle.gr_expr.proofs.path.hops_end.Goals as goal

pub returns-in_err-end : goal.returns-in_err-end
returns-in_err-end g c =
    let stops = hops_stop (g.R.Rows.tables c.args.rows.now) c.loop-hop.table c.args.hops.now c.loop-hop.hop-index _ c.loop-hop.end c.loop-hop-test.true (sym c.hop_end.ensures ∙ c.in_err-end.was) in
    c.from_residual.ensures ∙ sym stops ∙ c.loop-hop.invariant
