use Rattle.std.proofs.Common.{length, sym, ap, ◌∙◌}
use Rattle.gr_postings.specs.Inside.Kept.{positions_left}
use Rattle.gr_postings.proofs.PositionLemmas.{length_positions}
use Rattle.gr_postings.proofs.view.PositionsView.len.Goals as goal

pub returns-in-Coded-clause-exact : goal.returns-in-Coded-clause-exact
returns-in-Coded-clause-exact c =
    let coded = c.in-Coded.coded in
    sym (length_positions coded.last coded.left coded.bytes.now) ∙ (sym (ap (λ form. length (positions_left form)) c.in-Coded.is) ∙ ap length c.self.view_is)
