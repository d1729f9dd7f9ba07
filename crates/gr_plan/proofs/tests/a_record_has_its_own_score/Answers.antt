use Rattle.gr_plan.proofs.FitsLemmas.{Fits-all}
use Rattle.gr_plan.proofs.tests.a_record_has_its_own_score.Goals as goal

pub or-requires-clause-first : goal.or-requires-clause-first
or-requires-clause-first g c = Fits-all
