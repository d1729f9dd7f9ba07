use Rattle.gr_index.proofs.TestLemmas.{kept_places}
use Rattle.gr_index.proofs.tests.merged.Goals as goal

pub swapped-requires-clause-places : goal.swapped-requires-clause-places
swapped-requires-clause-places c = kept_places _ _ _ _ _ c.in-Some.ensures.places c.in_ok-chunk-in-Some.ensures.exact
