use Rattle.std.proofs.Common.{◌≡◌, ◌<◌, false, ap, arith, ◌∙◌}
use Rattle.std.specs.Option.{unwrap_or}
use Rattle.gr_plan.proofs.MarkLemmas.{marks-alive}
use Rattle.gr_plan.proofs.tests.MarksRows.is_alive.Goals as goal

pub returns : goal.returns
returns c =
    let here : c.args.table.0 ≡ 0 = omega (arith, c.if-table-gt0.false) in
    let some : 0 < c.args.id.0 = omega (arith, c.if-id-eq0.false) in
    c.unwrap_or.ensures
    ∙ ap (λ found. unwrap_or found false) c.copied.ensures
    ∙ c.get.ensures.lookup.4 (omega arith) false
    ∙ marks-alive c.args.self.now.alive c.args.table c.args.id here some
