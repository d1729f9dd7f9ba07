use Rattle.std.proofs.Common.{refl}
use Rattle.gr_chunks.proofs.TestLemmas.{apart_by_place}
use Rattle.gr_chunks.proofs.tests.a_chunk_gives_the_postings_of_a_term.Goals as goal

pub chunk_of-requires : goal.chunk_of-requires
chunk_of-requires g c =
    rw c.in_ok-from_array.ensures.items (apart_by_place c.in_ok-later.later c.in_ok-sooner.sooner 4294967295 0 c.in_ok-later.ensures.0 c.in_ok-sooner.ensures.0 refl)
