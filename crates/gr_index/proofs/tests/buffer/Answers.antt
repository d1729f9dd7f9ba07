use Rattle.gr_index.proofs.TestLemmas.{distinct, have_one_place, places, some}
use Rattle.gr_index.proofs.tests.buffer.Goals as goal

pub buffer_of-requires-clause-one_place : goal.buffer_of-requires-clause-one_place
buffer_of-requires-clause-one_place c = have_one_place _ _ c.in_ok-from_array.ensures.items

pub buffer_of-requires-clause-distinct : goal.buffer_of-requires-clause-distinct
buffer_of-requires-clause-distinct c = distinct _ _ c.in_ok-from_array.ensures.items

pub returns-clause-some : goal.returns-clause-some
returns-clause-some c = some _ _ _ c.in_ok-from_array.ensures.items c.in_ok-buffer_of.ensures.exact

pub returns-clause-one_place : goal.returns-clause-one_place
returns-clause-one_place c = places _ _ _ c.in_ok-from_array.ensures.items c.in_ok-buffer_of.ensures.exact
