-- Cursors into the lists of terms.
use Rattle.std.proofs.Common.{◌≡◌, ℕ, zero, suc, ◌+◌, inl, inr, List, length, get_or, replicate, refl, ap, ◌∙◌, arith}
use Rattle.std.proofs.lemmas.List.{length-replicate}
use Rattle.gr_base.specs.declared.numbers.RecordId.{RecordId}
use Rattle.gr_hits.specs.Places.{Place, IsBefore}
use Rattle.gr_hits.specs.Inside.Cursors.{AreBehind}
use Rattle.gr_hits.proofs.HitLemmas.{all_weaker}
use Rattle.gr_hits.proofs.PlaceLemmas.{before-before}

further : (one other : Place) (k : ℕ) → IsBefore one other → IsBefore (one.0, one.1 + 1 + k) (other.0, other.1 + 1 + k)
further one other k (inl l) = inl l
further one other k (inr h) = inr (h.0, omega (arith, h.1))

-- a later place has as much behind it
pub behind-later : (cursors : List ℕ) (terms : List (List Place)) (one other : Place) → IsBefore one other → AreBehind cursors terms one.0 (one.1 + 1) → AreBehind cursors terms other.0 (other.1 + 1)
behind-later cursors terms one other later h = record {
  each = h.each;
  within = h.within;
  before = λ k. all_weaker (λ (place : Place). IsBefore place (one.0, one.1 + 1 + k)) (λ (place : Place). IsBefore place (other.0, other.1 + 1 + k)) (λ place b. before-before place (one.0, one.1 + 1 + k) (other.0, other.1 + 1 + k) b (further one other k later)) _ (h.before k);
}

zeros-at : (n k : ℕ) → let none : ℕ = 0 in get_or (replicate n none) k none ≡ none
zeros-at zero k = refl
zeros-at (suc n) zero = refl
zeros-at (suc n) (suc k) = zeros-at n k

-- at the start nothing is behind a cursor
pub behind-start : (cursors : List ℕ) (terms : List (List Place)) (id : RecordId) (position : ℕ) → cursors ≡ replicate (length terms) 0 → AreBehind cursors terms id position
behind-start cursors terms id position e = record {
  each = ap length e ∙ length-replicate (length terms) 0;
  within = λ k. rw (e, zeros-at (length terms) k) (omega arith);
  before = λ k. rw (e, zeros-at (length terms) k) tt;
}
