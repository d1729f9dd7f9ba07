use Rattle.gr_index.proofs.TestLemmas.{no_places, no_postings}
use Rattle.gr_index.proofs.tests.missing.Goals as goal

pub chunk_of-requires : goal.chunk_of-requires
chunk_of-requires c = no_postings _ c.new-none.ensures.items

pub swapped-requires-clause-places : goal.swapped-requires-clause-places
swapped-requires-clause-places c = no_places _ _ _ _ c.new-none.ensures.items c.in_ok-chunk.ensures.exact
