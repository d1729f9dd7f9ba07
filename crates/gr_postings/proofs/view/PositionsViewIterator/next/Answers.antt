use Rattle.std.proofs.Common.{subst}
use Rattle.gr_postings.specs.Inside.Kept.{positions_left}
use Rattle.gr_postings.specs.Positions.{AreValid}
use Rattle.gr_postings.proofs.PositionLemmas.{next_valid, valid_tail}
use Rattle.gr_postings.proofs.view.PositionsViewIterator.next.Goals as goal
use Rattle.gr_postings.proofs.view.PositionsViewIterator.next.Goals.{in-Plain+in_ok-first-in-Plain, in-Coded}

pub invariant_of-self-2 : goal.invariant_of-self-2
invariant_of-self-2 c =
    elim c.match-self.branch [
      | in-Plain+in_ok-first-in-Plain w ↦
          let valid = subst (λ form. AreValid (positions_left form)) w.in-Plain.is c.self.invariant in
          rw w.self-inside-is (valid_tail w.in_ok-first-in-Plain.first.now w.in_ok-first-in-Plain.rest.now (subst AreValid w.in_ok-first-in-Plain.ensures.cases.0 valid))
      | in-Coded w ↦
          let valid = subst (λ form. AreValid (positions_left form)) w.in-Coded.is c.self.invariant in
          rw w.self-inside-is (next_valid w.in-Coded.coded w.next.result w.next.new.self valid w.next.ensures)
    ]
