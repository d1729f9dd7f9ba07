-- The parts of a list of hits around an id.
use Rattle.std.proofs.Common.{◌≡◌, ℕ, zero, suc, ◌<◌, ◌≤◌, true, false, List, [], ◌∷◌, ◌++◌, length, get_or, take, drop, ltb, refl, sym, ap, subst, ◌∙◌, arith}
use Rattle.std.specs.List.{AllByRecursion, AllWithin}
use Rattle.std.specs.List.Sorted.{IsPartitionPoint, IsPartitionedBy}
use Rattle.std.proofs.lemmas.Bool.{ltb-true, ltb-false, lt-ltb}
use Rattle.std.proofs.lemmas.List.{take-append-drop}
use Rattle.std.proofs.lemmas.List.Elements.{All-from_recursion}
use Rattle.gr_base.specs.declared.numbers.RecordId.{RecordId}
use Rattle.gr_hits.specs.Hits.{Hit, AreHits}
use Rattle.gr_hits.specs.Inside.Parts.{AreBelow, AreAbove, AreParts}
use Rattle.gr_hits.proofs.HitLemmas.{Rise, all_weaker, rise, hits-tail, hits-drop}
use Rattle.gr_hits.proofs.SumLemmas.{kept-some}

-- what holds up to a place, holds of those taken
pub all_taken : {X : Type 0} (P : X → Type 0) (n : ℕ) (xs : List X) → AllWithin P xs 0 n → AllByRecursion P (take n xs)
all_taken P zero xs w = tt
all_taken P (suc n) [] w = tt
all_taken P (suc n) (x ∷ xs) w = (w 0 x (omega arith) (omega arith), all_taken P n xs (λ k d a b. w (suc k) d (omega arith) (omega arith)))

-- what holds from a place on, holds of those left
pub all_left : {X : Type 0} (P : X → Type 0) (n : ℕ) (xs : List X) → AllWithin P xs n (length xs) → AllByRecursion P (drop n xs)
all_left P zero [] w = tt
all_left P zero (x ∷ xs) w = (w 0 x (omega arith) (omega arith), all_left P zero xs (λ k d a b. w (suc k) d (omega arith) (omega arith)))
all_left P (suc n) [] w = tt
all_left P (suc n) (x ∷ xs) w = all_left P n xs (λ k d a b. w (suc k) d (omega arith) (omega arith))

rise-at : (hits : List Hit) → Rise hits → (i j : ℕ) (d : Hit) → i ≤ j → j < length hits → (get_or hits i d).0.0 ≤ (get_or hits j d).0.0
rise-at [] r i j d a b = omega arith
rise-at (hit ∷ hits) r zero zero d a b = omega arith
rise-at (hit ∷ hits) r zero (suc j) d a b =
    let above : hit.0.0 < (get_or hits j d).0.0 = All-from_recursion (λ (other : Hit). hit.0.0 < other.0.0) hits r.0 j d (omega arith) in
    omega arith
rise-at (hit ∷ hits) r (suc i) zero d a b = omega arith
rise-at (hit ∷ hits) r (suc i) (suc j) d a b = rise-at hits r.1 i j d (omega arith) (omega arith)

-- hits below an id stand first
pub hits_part : (hits : List Hit) (id : ℕ) → AreHits hits → IsPartitionedBy (λ (hit : Hit). ltb hit.0.0 id) hits
hits_part hits id h = λ i j d a b e.
    let low : (get_or hits j d).0.0 < id = ltb-true _ _ e in
    let order : (get_or hits i d).0.0 ≤ (get_or hits j d).0.0 = rise-at hits (rise hits h) i j d a b in
    lt-ltb (get_or hits i d).0.0 id (omega arith)

front_below : (hits : List Hit) (id : RecordId) (n : ℕ) → IsPartitionPoint (λ (hit : Hit). ltb hit.0.0 id.0 ≡ true) (λ (hit : Hit). ltb hit.0.0 id.0 ≡ false) hits n → AreBelow id (take n hits)
front_below hits id n p = all_taken (λ (hit : Hit). hit.0.0 < id.0) n hits (λ k d a b. ltb-true _ _ (p.0 k d a b))

left_from : (hits : List Hit) (id : RecordId) (n : ℕ) → IsPartitionPoint (λ (hit : Hit). ltb hit.0.0 id.0 ≡ true) (λ (hit : Hit). ltb hit.0.0 id.0 ≡ false) hits n → AllByRecursion (λ (hit : Hit). id.0 ≤ hit.0.0) (drop n hits)
left_from hits id n p = all_left (λ (hit : Hit). id.0 ≤ hit.0.0) n hits (λ k d a b. ltb-false _ _ (p.1 k d a b))

-- the parts, where the id was found
pub parts_found : (hits : List Hit) (id : RecordId) (n : ℕ) (front left above : List Hit) (hit : Hit) → AreHits hits → front ≡ take n hits → left ≡ drop n hits
    → IsPartitionPoint (λ (hit : Hit). ltb hit.0.0 id.0 ≡ true) (λ (hit : Hit). ltb hit.0.0 id.0 ≡ false) hits n → left ≡ hit ∷ above → hit.0.0 ≡ id.0 → AreParts hits id front hit.1 above
parts_found hits id n front left above hit h f l p e same =
    let whole : take n hits ++ drop n hits ≡ hits = take-append-drop n hits in
    let id_is : id ≡ hit.0 = ap (λ (m : ℕ). let made : RecordId = record { 0 = m } in made) (sym same) in
    let sound : AreHits (hit ∷ above) = subst AreHits (sym l ∙ e) (hits-drop n hits h) in
    let least : 1 ≤ hit.1 = sound.scores.0.some in
    record {
      whole = sym whole ∙ (rw (← f, ← l, e, kept-some id hit.1 above (λ z. omega arith), id_is) refl);
      below = rw f (front_below hits id n p);
      above = rw id_is (rise (hit ∷ above) sound).0;
      sound = hits-tail hit above sound;
    }

-- no hit of this id stands first
abbrev pub IsLater : RecordId → List Hit → Type 0
IsLater id [] = Unit {0}
IsLater id (hit ∷ hits) = hit.0.0 ≡ id.0 → ⊥

-- and where it was not
pub parts_missing : (hits : List Hit) (id : RecordId) (n : ℕ) (front left : List Hit) → AreHits hits → front ≡ take n hits → left ≡ drop n hits
    → IsPartitionPoint (λ (hit : Hit). ltb hit.0.0 id.0 ≡ true) (λ (hit : Hit). ltb hit.0.0 id.0 ≡ false) hits n → IsLater id left → AreParts hits id front 0 left
parts_missing hits id n front left h f l p later = record {
  whole = sym (take-append-drop n hits) ∙ (rw (← f, ← l) refl);
  below = rw f (front_below hits id n p);
  above = above_later id left (rw l (left_from hits id n p)) (rise left (rw l (hits-drop n hits h))) later;
  sound = rw l (hits-drop n hits h);
}
  where
    above_later : (id : RecordId) (hits : List Hit) → AllByRecursion (λ (hit : Hit). id.0 ≤ hit.0.0) hits → Rise hits → IsLater id hits → AreAbove id hits
    above_later id [] a r later = tt
    above_later id (hit ∷ hits) a r later =
        let low : id.0 ≤ hit.0.0 = a.0 in
        (omega arith, all_weaker (λ (other : Hit). hit.0.0 < other.0.0) (λ (other : Hit). id.0 < other.0.0) (λ other o. omega arith) hits r.0)
