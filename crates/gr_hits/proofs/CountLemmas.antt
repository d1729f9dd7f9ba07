-- Hits that are counted.
use Rattle.std.proofs.Common.{◌≡◌, ℕ, ◌+◌, ◌<◌, ◌≤◌, ◌==◌, ◌&&◌, inl, inr, min, Bool, true, false, cond, eqb, List, [], ◌∷◌, ◌++◌, length, get_or, take, refl, sym, ap, subst, ◌∙◌, arith}
use Rattle.std.specs.List.{AllByRecursion, filter}
use Rattle.std.proofs.lemmas.Bool.{cases_eq, eq-eqb, ne_eqb}
use Rattle.std.proofs.lemmas.List.Filters.{length-filter_more}
use Rattle.gr_base.specs.declared.limits.TheConstants.{MOST_SCORE}
use Rattle.gr_base.specs.declared.numbers.RecordId.{RecordId}
use Rattle.gr_hits.specs.Hits.{Hit, IsScore, AreHits, score_of, sum}
use Rattle.gr_hits.specs.Inside.Counts.{AreUpTo, Counts}
use Rattle.gr_hits.specs.Inside.Parts.{AreBelow}
use Rattle.gr_hits.specs.Places.{Place, IsBefore, stand_from, beginnings}
use Rattle.gr_hits.proofs.HitLemmas.{Rise, all_weaker, all_push, all_back, rise, hits_from_rise, hits-push, score_of-here, score_of-other}

all_front : {X : Type 0} (P : X → Type 0) (xs ys : List X) → AllByRecursion P (xs ++ ys) → AllByRecursion P xs
all_front P [] ys a = tt
all_front P (x ∷ xs) ys a = (a.0, all_front P xs ys a.1)

rise-front : (hits : List Hit) (last : Hit) → Rise (hits ++ last ∷ []) → Rise hits
rise-front [] last r = tt
rise-front (hit ∷ hits) last r = (all_front (λ (other : Hit). hit.0.0 < other.0.0) hits (last ∷ []) r.0, rise-front hits last r.1)

-- hits before the last one are below it
below_last : (hits : List Hit) (last : Hit) → Rise (hits ++ last ∷ []) → AreBelow last.0 hits
below_last [] last r = tt
below_last (hit ∷ hits) last r = ((all_back (λ (other : Hit). hit.0.0 < other.0.0) hits (last ∷ []) r.0).0, below_last hits last r.1)

hits-front : (hits : List Hit) (last : Hit) → AreHits (hits ++ last ∷ []) → AreHits hits
hits-front hits last h = hits_from_rise hits (rise-front hits last (rise _ h)) (all_front (λ (hit : Hit). IsScore hit.1) hits (last ∷ []) h.scores)

score_of-last : (hits : List Hit) (id : RecordId) (score : ℕ) (other : RecordId) → AreBelow id hits → other.0 ≡ id.0 → score_of (hits ++ (id, score) ∷ []) other ≡ score
score_of-last [] id score other b e = score_of-here (id, score) [] other (sym e)
score_of-last (hit ∷ hits) id score other b e =
    let low : hit.0.0 < id.0 = b.0 in
    score_of-other hit (hits ++ (id, score) ∷ []) other (λ s. omega arith) ∙ score_of-last hits id score other b.1 e

score_of-push : (hits : List Hit) (id : RecordId) (score : ℕ) (other : RecordId) → (other.0 ≡ id.0 → ⊥) → score_of (hits ++ (id, score) ∷ []) other ≡ score_of hits other
score_of-push [] id score other n = score_of-other (id, score) [] other (λ e. n (sym e))
score_of-push (hit ∷ hits) id score other n = elim (cases_eq hit.0.0 other.0) [
  | inl e ↦ score_of-here hit (hits ++ (id, score) ∷ []) other e ∙ sym (score_of-here hit hits other e)
  | inr s ↦ score_of-other hit (hits ++ (id, score) ∷ []) other s ∙ (score_of-push hits id score other n ∙ sym (score_of-other hit hits other s))
]

score_of-below : (hits : List Hit) (id other : RecordId) → AreBelow id hits → other.0 ≡ id.0 → score_of hits other ≡ 0
score_of-below [] id other b e = refl
score_of-below (hit ∷ hits) id other b e =
    let low : hit.0.0 < id.0 = b.0 in
    score_of-other hit hits other (λ s. omega arith) ∙ score_of-below hits id other b.1 e

counts_by : (id : RecordId) (old new : List Hit) → ((other : RecordId) → other.0 ≡ id.0 → score_of new other ≡ sum (score_of old other) 1) → ((other : RecordId) → (other.0 ≡ id.0 → ⊥) → score_of new other ≡ score_of old other) → Counts id true old new
counts_by id old new same apart = λ other. elim (cases_eq other.0 id.0) [
  | inl e ↦ same other e ∙ sym (chosen _ _ _ (eq-eqb other.0 id.0 e))
  | inr n ↦ apart other n ∙ sym (passed _ _ _ (ne_eqb other.0 id.0 n))
]
  where
    chosen : (b : Bool) (x y : ℕ) → b ≡ true → cond (true && b) x y ≡ x
    chosen b x y e = rw e refl

    passed : (b : Bool) (x y : ℕ) → b ≡ false → cond (true && b) x y ≡ y
    passed b x y e = rw e refl

-- what counting one more leaves
pub record Counted (id : RecordId) (old new : List Hit) : Type 0 where
  pub sound : AreHits new
  pub order : AreUpTo id new
  pub exact : Counts id true old new

raised_score : (score : ℕ) → IsScore score → IsScore (sum score 1)
raised_score score s = record { some = let a : 1 ≤ score = s.some in omega arith; most = omega arith }

-- the last hit is raised
pub count_raised : (hits : List Hit) (last : Hit) (id : RecordId) → AreHits (hits ++ last ∷ []) → last.0.0 ≡ id.0 → Counted id (hits ++ last ∷ []) (hits ++ (id, sum last.1 1) ∷ [])
count_raised hits last id h e =
    let below_it : AreBelow last.0 hits = below_last hits last (rise _ h) in
    let below : AreBelow id hits = subst (λ (n : ℕ). AllByRecursion (λ (hit : Hit). hit.0.0 < n) hits) e below_it in
    let score : IsScore last.1 = (all_back (λ (hit : Hit). IsScore hit.1) hits (last ∷ []) h.scores).0 in
    record {
      sound = hits-push hits id (sum last.1 1) (hits-front hits last h) below (raised_score last.1 score);
      order = all_push (λ (hit : Hit). hit.0.0 ≤ id.0) hits (id, sum last.1 1) (all_weaker (λ (hit : Hit). hit.0.0 < id.0) (λ (hit : Hit). hit.0.0 ≤ id.0) (λ hit l. omega arith) hits below) (omega arith);
      exact = counts_by id (hits ++ last ∷ []) (hits ++ (id, sum last.1 1) ∷ [])
          (λ other s. score_of-last hits id (sum last.1 1) other below s ∙ ap (λ (n : ℕ). sum n 1) (sym (score_of-last hits last.0 last.1 other below_it (s ∙ sym e))))
          (λ other n. score_of-push hits id (sum last.1 1) other n ∙ sym (score_of-push hits last.0 last.1 other (λ s. n (s ∙ e))));
    }

count_appended : (hits : List Hit) (id : RecordId) → AreHits hits → AreBelow id hits → Counted id hits (hits ++ (id, 1) ∷ [])
count_appended hits id h below = record {
  sound = hits-push hits id 1 h below (record { some = omega arith; most = omega arith });
  order = all_push (λ (hit : Hit). hit.0.0 ≤ id.0) hits (id, 1) (all_weaker (λ (hit : Hit). hit.0.0 < id.0) (λ (hit : Hit). hit.0.0 ≤ id.0) (λ hit l. omega arith) hits below) (omega arith);
  exact = counts_by id hits (hits ++ (id, 1) ∷ [])
      (λ other s. score_of-last hits id 1 other below s ∙ sym (ap (λ (n : ℕ). sum n 1) (score_of-below hits id other below s)))
      (λ other n. score_of-push hits id 1 other n);
}

-- a hit is appended after one of another record
pub count_after : (hits : List Hit) (last : Hit) (id : RecordId) → AreHits (hits ++ last ∷ []) → AreUpTo id (hits ++ last ∷ []) → (last.0.0 ≡ id.0 → ⊥) → Counted id (hits ++ last ∷ []) (hits ++ last ∷ [] ++ (id, 1) ∷ [])
count_after hits last id h u n =
    let top : last.0.0 ≤ id.0 = (all_back (λ (hit : Hit). hit.0.0 ≤ id.0) hits (last ∷ []) u).0 in
    count_appended (hits ++ last ∷ []) id h (all_push (λ (hit : Hit). hit.0.0 < id.0) hits last
    (all_weaker (λ (hit : Hit). hit.0.0 < last.0.0) (λ (hit : Hit). hit.0.0 < id.0) (λ hit l. omega arith) hits (below_last hits last (rise _ h))) (omega arith))

and_false : (b : Bool) → (b && false) ≡ false
and_false true = refl
and_false false = refl

one_more : (stand : Bool) (a b old new n m : ℕ) → new ≡ cond (stand && eqb b a) (sum old 1) old → old ≡ min n MOST_SCORE → m ≡ n + cond (eqb a b && stand) 1 0 → new ≡ min m MOST_SCORE
one_more true a b old new n m c o e = elim (cases_eq a b) [
  | inl s ↦
      let counted : new ≡ sum old 1 = c ∙ (rw (eq-eqb b a (sym s)) refl) in
      let longer : m ≡ n + 1 = e ∙ (rw (eq-eqb a b s) refl) in
      omega arith
  | inr s ↦
      let counted : new ≡ old = c ∙ (rw (ne_eqb b a (λ t. s (sym t))) refl) in
      let longer : m ≡ n + 0 = e ∙ (rw (ne_eqb a b s) refl) in
      omega arith
]
one_more false a b old new n m c o e =
    let longer : m ≡ n + 0 = e ∙ (rw (and_false (eqb a b)) refl) in
    omega arith

-- one more place
pub count_more : (first : List Place) (others : List (List Place)) (i : ℕ) (d : Place) (old new : List Hit) → i < length first
    → Counts (get_or first i d).0 (stand_from others (get_or first i d).0 ((get_or first i d).1 + 1)) old new
    → ((id : RecordId) → score_of old id ≡ min (length (beginnings (take i first) others id)) MOST_SCORE)
    → (id : RecordId) → score_of new id ≡ min (length (beginnings (take (i + 1) first) others id)) MOST_SCORE
count_more first others i d old new lt counts before id =
    let place : Place = get_or first i d in
    let test : Place → Bool = λ (p : Place). p.0.0 == id.0 && stand_from others p.0 (p.1 + 1) in
    one_more (stand_from others place.0 (place.1 + 1)) place.0.0 id.0 (score_of old id) (score_of new id) (length (filter test (take i first))) (length (filter test (take (i + 1) first))) (counts id) (before id) (length-filter_more test first i d lt)

-- what always holds, holds of each
pub all_always : {X : Type 0} (P : X → Type 0) → ((x : X) → P x) → (xs : List X) → AllByRecursion P xs
all_always P h [] = tt
all_always P h (x ∷ xs) = (h x, all_always P h xs)

-- no hit is after a record, so none is after a later one
pub up_to_later : (hits : List Hit) (one other : Place) → IsBefore one other → AreUpTo one.0 hits → AreUpTo other.0 hits
up_to_later hits one other (inl l) u = all_weaker (λ (hit : Hit). hit.0.0 ≤ one.0.0) (λ (hit : Hit). hit.0.0 ≤ other.0.0) (λ hit o. omega arith) hits u
up_to_later hits one other (inr h) u = all_weaker (λ (hit : Hit). hit.0.0 ≤ one.0.0) (λ (hit : Hit). hit.0.0 ≤ other.0.0) (λ hit o. omega (arith, h.0)) hits u

-- the value that a proof reads where there is no place
abbrev pub no_place : Place
no_place = (record { 0 = 0 }, 0)
