use Rattle.std.proofs.Common.{false}
use Rattle.gr_plan.proofs.FitsLemmas.{Fits-truth}
use Rattle.gr_plan.proofs.tests.no_record_is_found_where_nothing_holds.Goals as goal

pub found-requires : goal.found-requires
found-requires g c = λ tables. Fits-truth tables false
