-- Two postings that the tests make, told apart by their records.
use Rattle.std.proofs.Common.{◌≡◌, ℕ, Bool, true, false, ◌&&◌, eqb, [], ◌∷◌, refl, ap, ◌∙◌}
use Rattle.std.specs.List.{IsDistinct}
use Rattle.gr_postings.specs.Postings.{has_same_place, has_same_record}
use Rattle.gr_postings.specs.declared.posting.Posting.{Posting}

and_false : (a b : Bool) → b ≡ false → (a && b) ≡ false
and_false true b h = h
and_false false b h = refl

other_record : (p q : Posting) (i j : ℕ) → p.id.0 ≡ i → q.id.0 ≡ j → eqb i j ≡ false → has_same_record p q ≡ false
other_record p q i j a b h = and_false (eqb p.term.0 q.term.0) (eqb p.id.0 q.id.0) (ap (λ n. eqb n q.id.0) a ∙ (ap (eqb i) b ∙ h))

pub apart_by_record : (p q : Posting) (i j : ℕ) → p.id.0 ≡ i → q.id.0 ≡ j → eqb i j ≡ false → IsDistinct has_same_record (p ∷ q ∷ [])
unfolding IsDistinct
apart_by_record p q i j a b h = ((other_record p q i j a b h, tt), (tt, tt))

pub apart_by_place : (p q : Posting) (i j : ℕ) → p.id.0 ≡ i → q.id.0 ≡ j → eqb i j ≡ false → IsDistinct has_same_place (p ∷ q ∷ [])
unfolding IsDistinct
apart_by_place p q i j a b h = ((ap (λ t. t && eqb p.place q.place) (other_record p q i j a b h), tt), (tt, tt))
