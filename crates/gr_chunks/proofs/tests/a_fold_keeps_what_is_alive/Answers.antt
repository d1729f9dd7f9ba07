use Rattle.std.proofs.Common.{◌≡◌, [], ◌∷◌, refl}
use Rattle.std.proofs.lemmas.List.Elements.{All-from_recursion}
use Rattle.gr_postings.specs.declared.posting.Posting.{Posting}
use Rattle.gr_chunks.proofs.TestLemmas.{apart_by_record}
use Rattle.gr_chunks.proofs.tests.a_fold_keeps_what_is_alive.Goals as goal

pub buffer_of-requires-clause-one_place : goal.buffer_of-requires-clause-one_place
buffer_of-requires-clause-one_place g c =
    rw c.in_ok-from_array.ensures.items (20, All-from_recursion (λ (p : Posting). p.place ≡ 20) (c.in_ok-dead.dead ∷ c.in_ok-alive.alive ∷ []) (c.in_ok-dead.ensures.1, (c.in_ok-alive.ensures.1, tt)))

pub buffer_of-requires-clause-distinct : goal.buffer_of-requires-clause-distinct
buffer_of-requires-clause-distinct g c =
    rw c.in_ok-from_array.ensures.items (apart_by_record c.in_ok-dead.dead c.in_ok-alive.alive 1 2 c.in_ok-dead.ensures.0 c.in_ok-alive.ensures.0 refl)
