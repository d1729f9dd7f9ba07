use Rattle.std.proofs.Common.{◌≡◌, ◌∙◌, sym}
use Rattle.gr_root.proofs.TakenLemmas.{taken-apart}
use Rattle.gr_root.proofs.working.WorkingTables.take.Goals as goal

pub returns-in-Some : goal.returns-in-Some
returns-in-Some c =
    taken-apart _ c.self.inside.kept c.self.inside.apart c.take.new.self c.in-Some.apart c.args.table.0 (sym c.self.view_is) c.self.invariant
    (sym c.take.ensures.value ∙ c.in-Some.is) c.take.ensures.after c.if-take-table.true
