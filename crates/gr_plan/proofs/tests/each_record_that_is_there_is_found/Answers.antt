use Rattle.gr_plan.proofs.FitsLemmas.{Fits-all}
use Rattle.gr_plan.proofs.tests.each_record_that_is_there_is_found.Goals as goal

pub found-requires : goal.found-requires
found-requires g c = Fits-all
