-- Lists of hits: their order, and the score of each record.
use Rattle.std.proofs.Common.{◌≡◌, ℕ, zero, suc, ◌<◌, ◌≤◌, inl, inr, List, [], ◌∷◌, ◌++◌, map, drop, refl, sym, subst, ◌∙◌, arith}
use Rattle.std.specs.List.{AllByRecursion}
use Rattle.std.specs.List.Sorted.{IsStrictlySortedBy}
use Rattle.std.specs.Ordering.{nat_cmp}
use Rattle.std.specs.declared.cmp.Ordering.TheVariants.{Less}
use Rattle.std.proofs.lemmas.Bool.{cases_eq, cases_lt, eq-eqb, ne_eqb}
use Rattle.std.proofs.lemmas.Bool.Decides.{nat_tests}
use Rattle.std.proofs.lemmas.Map.Keys.{sorted_from_strictly_increasing, IsStrictlyIncreasing-from_sorted}
use Rattle.gr_base.specs.declared.limits.TheConstants.{MOST_SCORE}
use Rattle.gr_base.specs.declared.numbers.RecordId.{RecordId}
use Rattle.gr_hits.specs.Hits.{Hit, IsScore, AreHits, score_of}
use Rattle.gr_hits.specs.Inside.Parts.{AreBelow, AreAbove}

-- what holds of each, and what follows from it, holds of each
pub all_weaker : {X : Type 0} (P Q : X → Type 0) → ((x : X) → P x → Q x) → (xs : List X) → AllByRecursion P xs → AllByRecursion Q xs
all_weaker P Q w [] a = tt
all_weaker P Q w (x ∷ xs) a = (w x a.0, all_weaker P Q w xs a.1)

pub all_push : {X : Type 0} (P : X → Type 0) (xs : List X) (y : X) → AllByRecursion P xs → P y → AllByRecursion P (xs ++ y ∷ [])
all_push P [] y a p = (p, tt)
all_push P (x ∷ xs) y a p = (a.0, all_push P xs y a.1 p)

pub all_back : {X : Type 0} (P : X → Type 0) (xs ys : List X) → AllByRecursion P (xs ++ ys) → AllByRecursion P ys
all_back P [] ys a = a
all_back P (x ∷ xs) ys a = all_back P xs ys a.1

pub all_drop : {X : Type 0} (P : X → Type 0) (n : ℕ) (xs : List X) → AllByRecursion P xs → AllByRecursion P (drop n xs)
all_drop P zero xs a = a
all_drop P (suc n) [] a = tt
all_drop P (suc n) (x ∷ xs) a = all_drop P n xs a.1

-- the ids of these hits rise: each is below all after it
abbrev pub Rise : List Hit → Type 0
Rise [] = Unit {0}
Rise (hit ∷ hits) = AreAbove hit.0 hits × Rise hits

below_from_less : (a b : ℕ) → nat_cmp a b ≡ Less → a < b
below_from_less a b e = grind (arith, nat_tests)

less_from_below : (a b : ℕ) → a < b → nat_cmp a b ≡ Less
less_from_below a b h = grind (arith, nat_tests)

above_unmap : (id : ℕ) (hits : List Hit) → AllByRecursion (λ n. nat_cmp id n ≡ Less) (map (λ (hit : Hit). hit.0.0) hits) → AllByRecursion (λ (hit : Hit). id < hit.0.0) hits
above_unmap id [] a = tt
above_unmap id (hit ∷ hits) a = (below_from_less _ _ a.0, above_unmap id hits a.1)

above_map : (id : ℕ) (hits : List Hit) → AllByRecursion (λ (hit : Hit). id < hit.0.0) hits → AllByRecursion (λ n. nat_cmp id n ≡ Less) (map (λ (hit : Hit). hit.0.0) hits)
above_map id [] a = tt
above_map id (hit ∷ hits) a = (less_from_below _ _ a.0, above_map id hits a.1)

rise_from_sorted : (hits : List Hit) → IsStrictlySortedBy nat_cmp (map (λ (hit : Hit). hit.0.0) hits) → Rise hits
unfolding IsStrictlySortedBy
rise_from_sorted [] s = tt
rise_from_sorted (hit ∷ hits) s = (above_unmap hit.0.0 hits s.0, rise_from_sorted hits s.1)

sorted_from_rise : (hits : List Hit) → Rise hits → IsStrictlySortedBy nat_cmp (map (λ (hit : Hit). hit.0.0) hits)
unfolding IsStrictlySortedBy
sorted_from_rise [] r = tt
sorted_from_rise (hit ∷ hits) r = (above_map hit.0.0 hits r.0, sorted_from_rise hits r.1)

pub rise : (hits : List Hit) → AreHits hits → Rise hits
rise hits h = rise_from_sorted hits (sorted_from_strictly_increasing _ h.ascending)

pub hits_from_rise : (hits : List Hit) → Rise hits → AllByRecursion (λ (hit : Hit). IsScore hit.1) hits → AreHits hits
hits_from_rise hits r s = record { ascending = IsStrictlyIncreasing-from_sorted _ (sorted_from_rise hits r); scores = s }

rise-push : (hits : List Hit) (id : RecordId) (score : ℕ) → Rise hits → AreBelow id hits → Rise (hits ++ (id, score) ∷ [])
rise-push [] id score r b = (tt, tt)
rise-push (hit ∷ hits) id score r b = (all_push (λ (other : Hit). hit.0.0 < other.0.0) hits (id, score) r.0 b.0, rise-push hits id score r.1 b.1)

rise-drop : (n : ℕ) (hits : List Hit) → Rise hits → Rise (drop n hits)
rise-drop zero hits r = r
rise-drop (suc n) [] r = tt
rise-drop (suc n) (hit ∷ hits) r = rise-drop n hits r.1

-- no hits are hits
pub hits-nil : AreHits []
hits-nil = hits_from_rise [] tt tt

pub hits-push : (hits : List Hit) (id : RecordId) (score : ℕ) → AreHits hits → AreBelow id hits → IsScore score → AreHits (hits ++ (id, score) ∷ [])
hits-push hits id score h b s = hits_from_rise _ (rise-push hits id score (rise hits h) b) (all_push (λ (hit : Hit). IsScore hit.1) hits (id, score) h.scores s)

pub hits-cons : (hit : Hit) (hits : List Hit) → IsScore hit.1 → AreAbove hit.0 hits → AreHits hits → AreHits (hit ∷ hits)
hits-cons hit hits s a h = hits_from_rise _ (a, rise hits h) (s, h.scores)

pub hits-tail : (hit : Hit) (hits : List Hit) → AreHits (hit ∷ hits) → AreHits hits
hits-tail hit hits h = hits_from_rise hits (rise (hit ∷ hits) h).1 h.scores.1

pub hits-drop : (n : ℕ) (hits : List Hit) → AreHits hits → AreHits (drop n hits)
hits-drop n hits h = hits_from_rise _ (rise-drop n hits (rise hits h)) (all_drop (λ (hit : Hit). IsScore hit.1) n hits h.scores)

-- the score at the first hit, and elsewhere
pub score_of-here : (hit : Hit) (hits : List Hit) (id : RecordId) → hit.0.0 ≡ id.0 → score_of (hit ∷ hits) id ≡ hit.1
score_of-here hit hits id e = rw (eq-eqb hit.0.0 id.0 e) refl

pub score_of-other : (hit : Hit) (hits : List Hit) (id : RecordId) → (hit.0.0 ≡ id.0 → ⊥) → score_of (hit ∷ hits) id ≡ score_of hits id
score_of-other hit hits id n = rw (ne_eqb hit.0.0 id.0 n) refl

-- a record that comes before all hits has no score
pub score_of-before : (id : RecordId) (hits : List Hit) → AreAbove id hits → (other : RecordId) → other.0 ≤ id.0 → score_of hits other ≡ 0
score_of-before id [] a other l = refl
score_of-before id (hit ∷ hits) a other l =
    let first : id.0 < hit.0.0 = a.0 in
    score_of-other hit hits other (λ e. omega arith) ∙ score_of-before id hits a.1 other l

-- a score is at most the highest
pub score_of-most : (hits : List Hit) → AllByRecursion (λ (hit : Hit). IsScore hit.1) hits → (id : RecordId) → score_of hits id ≤ MOST_SCORE
score_of-most [] s id = omega arith
score_of-most (hit ∷ hits) s id = elim (cases_eq hit.0.0 id.0) [
  | inl e ↦ subst (λ (n : ℕ). n ≤ MOST_SCORE) (sym (score_of-here hit hits id e)) s.0.most
  | inr n ↦ subst (λ (n : ℕ). n ≤ MOST_SCORE) (sym (score_of-other hit hits id n)) (score_of-most hits s.1 id)
]

-- hits among which no record up to an id has a score are above it
pub above_from_scores : (id : RecordId) (hits : List Hit) → AreHits hits → ((other : RecordId) → other.0 ≤ id.0 → score_of hits other ≡ 0) → AreAbove id hits
above_from_scores id [] h z = tt
above_from_scores id (hit ∷ hits) h z = elim (cases_lt id.0 hit.0.0) [
  | inl first ↦ (first, all_weaker (λ (other : Hit). hit.0.0 < other.0.0) (λ (other : Hit). id.0 < other.0.0) (λ other l. omega arith) hits (rise (hit ∷ hits) h).0)
  | inr late ↦
      let none : hit.1 ≡ 0 = sym (score_of-here hit hits hit.0 refl) ∙ z hit.0 late in
      let some : 1 ≤ hit.1 = h.scores.0.some in
      absurd (omega arith)
]
