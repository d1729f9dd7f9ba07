use Rattle.std.proofs.Common.{◌≡◌, ◌<◌, ◌^◌, length, refl, rules, arith, ◌∙◌}
use Rattle.std.specs.Arc.{arc_value}
use Rattle.gr_db.specs.Apply.{replay}
use Rattle.gr_session.specs.Commands.{meaning_of}
use Rattle.gr_session.specs.Inside.Kept.{Asks}
use Rattle.gr_session.proofs.KeptLemmas.{IsKept-begun}
use Rattle.gr_session.proofs.under_way.UnderWay.begin.Goals as goal

pub returns-clause-between : goal.returns-clause-between
returns-clause-between c =
    let journal = (arc_value c.in_ok-root.root).journal in
    let asks : Asks (replay journal) (meaning_of (replay journal) c.in_ok-parsed.parsed) c.in_ok-asked.asked = rw c.deref.ensures at c.in_ok-asked.ensures in
    let few : length c.in_ok-asked.asked.changes.items < 2 ^ 64 = search rules in
    let reached : c.len.result ≡ length journal = search rules in
    IsKept-begun _ c.in_ok-asked.asked c.in_ok-parsed.ensures.read asks refl refl few c.in_ok-form.ensures.exact (omega arith) refl (c.in_ok-starved.ensures ∙ c.of-3.ensures) c.in_ok-form.ensures.legible
