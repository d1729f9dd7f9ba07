-- Lists of hits with the same scores.
use Rattle.std.proofs.Common.{◌≡◌, ℕ, ◌<◌, ◌≤◌, inl, inr, List, [], ◌∷◌, refl, sym, ap, ◌∙◌, arith}
use Rattle.std.proofs.lemmas.Bool.{cases_eq, cases_order}
use Rattle.gr_base.specs.declared.numbers.RecordId.{RecordId}
use Rattle.gr_hits.specs.Hits.{Hit, AreHits, score_of}
use Rattle.gr_hits.specs.Inside.Parts.{AreAbove}
use Rattle.gr_hits.proofs.HitLemmas.{all_weaker, rise, hits-tail, score_of-here, score_of-other, score_of-before}

-- a record's score at the first hit is not the 0 of a record that is before all hits
not_before : (hit : Hit) (hits others : List Hit) → AreHits (hit ∷ hits) → AreAbove hit.0 others → score_of (hit ∷ hits) hit.0 ≡ score_of others hit.0 → ⊥
not_before hit hits others h a e =
    let least : 1 ≤ hit.1 = h.scores.0.some in
    let score : hit.1 ≡ 0 = sym (score_of-here hit hits hit.0 refl) ∙ (e ∙ score_of-before hit.0 others a hit.0 (omega arith)) in
    omega arith

above_all : (id : RecordId) (hit : Hit) (hits : List Hit) → AreHits (hit ∷ hits) → id.0 < hit.0.0 → AreAbove id (hit ∷ hits)
above_all id hit hits h l = (l, all_weaker (λ (other : Hit). hit.0.0 < other.0.0) (λ (other : Hit). id.0 < other.0.0) (λ other o. omega arith) hits (rise (hit ∷ hits) h).0)

abbrev hit_of : ℕ → ℕ → Hit
hit_of id score = (record { 0 = id }, score)

same_hit : (one other : Hit) → one.0.0 ≡ other.0.0 → one.1 ≡ other.1 → one ≡ other
same_hit one other i s = ap (λ (n : ℕ). hit_of n one.1) i ∙ ap (λ (n : ℕ). hit_of other.0.0 n) s

-- the scores after a first hit that both lists have
same_tails : (one other : Hit) (ones others : List Hit) → AreHits (one ∷ ones) → AreHits (other ∷ others) → one.0.0 ≡ other.0.0 → ((id : RecordId) → score_of (one ∷ ones) id ≡ score_of (other ∷ others) id) → (id : RecordId) → score_of ones id ≡ score_of others id
same_tails one other ones others h k i s id = elim (cases_eq one.0.0 id.0) [
  | inl e ↦ score_of-before one.0 ones (rise (one ∷ ones) h).0 id (omega arith) ∙ sym (score_of-before other.0 others (rise (other ∷ others) k).0 id (omega arith))
  | inr n ↦ sym (score_of-other one ones id n) ∙ (s id ∙ score_of-other other others id (λ e. n (i ∙ e)))
]

pub same_hits : (one other : List Hit) → AreHits one → AreHits other → ((id : RecordId) → score_of one id ≡ score_of other id) → one ≡ other
same_hits [] [] h k s = refl
same_hits [] (other ∷ others) h k s = absurd (not_before other others [] k tt (sym (s other.0)))
same_hits (one ∷ ones) [] h k s = absurd (not_before one ones [] h tt (s one.0))
same_hits (one ∷ ones) (other ∷ others) h k s = elim (cases_order one.0.0 other.0.0) [
  | inl e ↦
      let score : one.1 ≡ other.1 = sym (score_of-here one ones one.0 refl) ∙ (s one.0 ∙ score_of-here other others one.0 (sym e)) in
      let first : one ≡ other = same_hit one other e score in
      let after : ones ≡ others = same_hits ones others (hits-tail one ones h) (hits-tail other others k) (same_tails one other ones others h k e s) in
      cc
  | inr o ↦ elim o [
    | inl l ↦ absurd (not_before one ones (other ∷ others) h (above_all one.0 other others k l) (s one.0))
    | inr l ↦ absurd (not_before other others (one ∷ ones) k (above_all other.0 one ones h l) (sym (s other.0)))
  ]
]
