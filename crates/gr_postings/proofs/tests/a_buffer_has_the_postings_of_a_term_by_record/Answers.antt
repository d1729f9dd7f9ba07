use Rattle.std.proofs.Common.{◌≡◌, ℕ, Bool, true, false, ◌&&◌, eqb, [], ◌∷◌, refl, ap, ◌∙◌}
use Rattle.std.specs.List.{IsDistinct}
use Rattle.std.proofs.lemmas.List.Elements.{All-from_recursion}
use Rattle.gr_postings.specs.Postings.{has_same_record}
use Rattle.gr_postings.specs.declared.posting.Posting.{Posting}
use Rattle.gr_postings.proofs.tests.a_buffer_has_the_postings_of_a_term_by_record.Goals as goal

and_false : (a b : Bool) → b ≡ false → (a && b) ≡ false
and_false true b h = h
and_false false b h = refl

two_apart : (p q : Posting) (i j : ℕ) → p.id.0 ≡ i → q.id.0 ≡ j → eqb i j ≡ false → IsDistinct has_same_record (p ∷ q ∷ [])
unfolding IsDistinct
two_apart p q i j a b h =
    ((and_false (eqb p.term.0 q.term.0) (eqb p.id.0 q.id.0) (ap (λ n. eqb n q.id.0) a ∙ (ap (eqb i) b ∙ h)), tt), (tt, tt))

pub buffer_of-requires-clause-one_place : goal.buffer_of-requires-clause-one_place
buffer_of-requires-clause-one_place g c =
    let p = c.in_ok-later.later in
    let q = c.in_ok-sooner.sooner in
    rw c.in_ok-from_array.ensures.items (18446744073709551615, All-from_recursion (λ (r : Posting). r.place ≡ 18446744073709551615) (p ∷ q ∷ []) (c.in_ok-later.ensures.1, (c.in_ok-sooner.ensures.1, tt)))

pub buffer_of-requires-clause-distinct : goal.buffer_of-requires-clause-distinct
buffer_of-requires-clause-distinct g c =
    rw c.in_ok-from_array.ensures.items (two_apart c.in_ok-later.later c.in_ok-sooner.sooner 4294967295 0 c.in_ok-later.ensures.0 c.in_ok-sooner.ensures.0 refl)
