use Rattle.std.proofs.Common.{IfSome}
use Rattle.gr_expr.specs.Fits.{Fits}
use Rattle.gr_select.proofs.FittingLemmas.{Fits-both}
use Rattle.gr_select.proofs.conditions.condition.Goals as goal

pub returns-clause-fit : goal.returns-clause-fit
returns-clause-fit c = λ db grows fitting.
    let query : IfSome c.in_ok-query.query (Fits db.tables) = rw c.in_ok-query.ensures.same at c.condition_told-query.ensures.fit db grows fitting in
    let filter : IfSome c.in_ok-filter.filter (Fits db.tables) = rw c.in_ok-filter.ensures.same at c.condition_told-filter.ensures.fit db grows fitting in
    rw c.in_ok-both.ensures (Fits-both db.tables c.in_ok-query.query c.in_ok-filter.filter query filter)
