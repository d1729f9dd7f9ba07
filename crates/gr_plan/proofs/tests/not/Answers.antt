use Rattle.gr_plan.proofs.FitsLemmas.{Fits-not}
use Rattle.gr_plan.proofs.tests.not.Goals as goal

pub returns : goal.returns
returns c = λ tables. rw c.in_ok-new.ensures (Fits-not tables c.args.of (c.requires tables))
