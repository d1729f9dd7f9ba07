-- Places in order.
use Rattle.std.proofs.Common.{◌≡◌, ℕ, zero, suc, ◌+◌, ◌<◌, ◌==◌, ◌&&◌, ◌||◌, inl, inr, Bool, true, false, List, [], ◌∷◌, ◌++◌, length, get_or, take, drop, ltb, refl, sym, ap, subst, ◌∙◌, arith}
use Rattle.std.specs.List.{AllByRecursion, list_any}
use Rattle.std.specs.List.Sorted.{IsPartitionPoint, IsPartitionedBy}
use Rattle.std.proofs.lemmas.Bool.{cases_eq, ltb-true, lt-ltb, le-ltb, eq-eqb, ne_eqb, eqb-true, or_cases, and_parts, both_ways}
use Rattle.std.proofs.lemmas.List.Elements.{All-from_recursion}
use Rattle.gr_base.specs.declared.numbers.RecordId.{RecordId}
use Rattle.gr_hits.specs.Places.{Place, IsBefore, Ascend, stands}
use Rattle.gr_hits.specs.Inside.Cursors.{AllBefore}
use Rattle.gr_hits.proofs.GallopLemmas.{false_from}
use Rattle.gr_hits.proofs.HitLemmas.{all_weaker, all_push}
use Rattle.gr_hits.proofs.PartsLemmas.{all_taken, all_left}

-- a place before another is before all after that
pub before-before : (one other third : Place) → IsBefore one other → IsBefore other third → IsBefore one third
before-before one other third (inl a) (inl b) = inl (omega arith)
before-before one other third (inl a) (inr b) = inl (omega (arith, b.0))
before-before one other third (inr a) (inl b) = inl (omega (arith, a.0))
before-before one other third (inr a) (inr b) = inr (a.0 ∙ b.0, omega (arith, a.1, b.1))

-- whether a place comes before this one
abbrev pub precedes : RecordId → ℕ → Place → Bool
precedes id position place = ltb place.0.0 id.0 || (place.0.0 == id.0 && ltb place.1 position)

pub before_from_test : (id : RecordId) (position : ℕ) (place : Place) → precedes id position place ≡ true → IsBefore place (id, position)
before_from_test id position place e = elim (or_cases _ _ e) [
  | inl l ↦ inl (ltb-true _ _ l)
  | inr r ↦ let k = and_parts (place.0.0 == id.0) (ltb place.1 position) r in inr (eqb-true _ _ k.0, ltb-true _ _ k.1)
]

pub test_from_before : (id : RecordId) (position : ℕ) (place : Place) → IsBefore place (id, position) → precedes id position place ≡ true
test_from_before id position place (inl l) = rw (lt-ltb place.0.0 id.0 l) refl
test_from_before id position place (inr h) = rw (le-ltb place.0.0 id.0 (omega (arith, h.0)), eq-eqb place.0.0 id.0 h.0, lt-ltb place.1 position h.1) refl

ascend-at : (places : List Place) → Ascend places → (i j : ℕ) (d : Place) → i < j → j < length places → IsBefore (get_or places i d) (get_or places j d)
ascend-at [] r i j d a b = absurd (omega arith)
ascend-at (place ∷ places) r zero zero d a b = absurd (omega arith)
ascend-at (place ∷ places) r zero (suc j) d a b = All-from_recursion (IsBefore place) places r.0 j d (omega arith)
ascend-at (place ∷ places) r (suc i) zero d a b = absurd (omega arith)
ascend-at (place ∷ places) r (suc i) (suc j) d a b = ascend-at places r.1 i j d (omega arith) (omega arith)

-- places before this one stand first
pub places_part : (places : List Place) (id : RecordId) (position : ℕ) → Ascend places → IsPartitionedBy (precedes id position) places
places_part places id position r = λ i j d a b e. elim (cases_eq i j) [
  | inl same ↦ subst (λ (n : ℕ). precedes id position (get_or places n d) ≡ true) (sym same) e
  | inr n ↦ test_from_before id position (get_or places i d) (before-before (get_or places i d) (get_or places j d) (id, position) (ascend-at places r i j d (omega arith) b) (before_from_test id position (get_or places j d) e))
]

pub ascend-drop : (n : ℕ) (places : List Place) → Ascend places → Ascend (drop n places)
ascend-drop zero places r = r
ascend-drop (suc n) [] r = tt
ascend-drop (suc n) (place ∷ places) r = ascend-drop n places r.1

pub ascend-push : (places : List Place) (place : Place) → Ascend places → AllByRecursion (λ (other : Place). IsBefore other place) places → Ascend (places ++ place ∷ [])
ascend-push [] place r b = (tt, tt)
ascend-push (first ∷ places) place r b = (all_push (IsBefore first) places place r.0 b.0, ascend-push places place r.1 b.1)

-- whether a place is this one
abbrev pub is_spot : RecordId → ℕ → Place → Bool
is_spot id position place = place.0.0 == id.0 && place.1 == position

spot_before : (id : RecordId) (position : ℕ) (place : Place) → IsBefore place (id, position) → is_spot id position place ≡ false
spot_before id position place (inl l) = rw (ne_eqb place.0.0 id.0 (λ e. omega arith)) refl
spot_before id position place (inr h) = rw (eq-eqb place.0.0 id.0 h.0, ne_eqb place.1 position (λ e. omega (arith, h.1))) refl

-- a spot is not among places before it
any_after : (test : Place → Bool) (n : ℕ) (places : List Place) → AllByRecursion (λ (place : Place). test place ≡ false) (take n places) → list_any test places ≡ list_any test (drop n places)
any_after test zero places a = refl
any_after test (suc n) [] a = refl
any_after test (suc n) (place ∷ places) a = rw (a.0) (any_after test n places a.1)

pub stands_after : (id : RecordId) (position n : ℕ) (places : List Place) → AllBefore id position (take n places) → stands places id position ≡ stands (drop n places) id position
stands_after id position n places a = any_after (is_spot id position) n places (all_weaker (λ (place : Place). IsBefore place (id, position)) (λ (place : Place). is_spot id position place ≡ false) (spot_before id position) (take n places) a)

none_stands : (id : RecordId) (position : ℕ) (places : List Place) → AllByRecursion (λ (place : Place). is_spot id position place ≡ false) places → stands places id position ≡ false
none_stands id position [] a = refl
none_stands id position (place ∷ places) a = rw (a.0) (none_stands id position places a.1)

or_none : (b c : Bool) → c ≡ false → (b || c) ≡ b
or_none true c e = refl
or_none false c e = e

-- a spot is among places from it on just where it is the first
pub stands_first : (id : RecordId) (position : ℕ) (place : Place) (places : List Place) → Ascend (place ∷ places) → (IsBefore place (id, position) → ⊥) → stands (place ∷ places) id position ≡ is_spot id position place
stands_first id position place places r n = or_none (is_spot id position place) (stands places id position) (none_stands id position places
    (all_weaker (IsBefore place) (λ (other : Place). is_spot id position other ≡ false) (λ other b. false_from (is_spot id position other) (λ e. n (reaches other b e))) places r.0))
  where
    reaches : (other : Place) → IsBefore place other → is_spot id position other ≡ true → IsBefore place (id, position)
    reaches other (inl l) e = let k = and_parts (other.0.0 == id.0) (other.1 == position) e in inl (omega (arith, eqb-true _ _ k.0))
    reaches other (inr h) e = let k = and_parts (other.0.0 == id.0) (other.1 == position) e in inr (h.0 ∙ eqb-true _ _ k.0, omega (arith, h.1, eqb-true _ _ k.1))

-- what is taken in two steps
pub all_take_more : {X : Type 0} (P : X → Type 0) (n m : ℕ) (xs : List X) → AllByRecursion P (take n xs) → AllByRecursion P (take m (drop n xs)) → AllByRecursion P (take (n + m) xs)
all_take_more P zero m xs a b = let e : zero + m ≡ m = omega arith in rw e b
all_take_more P (suc n) m [] a b = let e : suc n + m ≡ suc (n + m) = omega arith in rw e tt
all_take_more P (suc n) m (x ∷ xs) a b = let e : suc n + m ≡ suc (n + m) = omega arith in rw e (a.0, all_take_more P n m xs a.1 b)

-- places skipped by a search come before the spot
pub skipped_before : (id : RecordId) (position : ℕ) (places : List Place) (n : ℕ) → IsPartitionPoint (λ (place : Place). precedes id position place ≡ true) (λ (place : Place). precedes id position place ≡ false) places n → AllBefore id position (take n places)
skipped_before id position places n p = all_taken (λ (place : Place). IsBefore place (id, position)) n places (λ k d a b. before_from_test id position (get_or places k d) (p.0 k d a b))

-- after a search from a cursor on: what is behind it then
pub moved_before : (id : RecordId) (position : ℕ) (places rest : List Place) (cursor n : ℕ) → AllBefore id position (take cursor places) → rest ≡ drop cursor places
    → IsPartitionPoint (λ (place : Place). precedes id position place ≡ true) (λ (place : Place). precedes id position place ≡ false) rest n → AllBefore id position (take (cursor + n) places)
moved_before id position places rest cursor n b r p = all_take_more (λ (place : Place). IsBefore place (id, position)) cursor n places b (subst (λ (ps : List Place). AllBefore id position (take n ps)) r (skipped_before id position rest n p))

stands_left : (id : RecordId) (position : ℕ) (places rest left : List Place) (cursor n : ℕ) → AllBefore id position (take cursor places) → rest ≡ drop cursor places
    → IsPartitionPoint (λ (place : Place). precedes id position place ≡ true) (λ (place : Place). precedes id position place ≡ false) rest n → left ≡ drop n rest → stands places id position ≡ stands left id position
stands_left id position places rest left cursor n b r p l =
    stands_after id position cursor places b ∙ (ap (λ (ps : List Place). stands ps id position) (sym r) ∙ (stands_after id position n rest (skipped_before id position rest n p) ∙ ap (λ (ps : List Place). stands ps id position) (sym l)))

-- and whether the spot was found
pub found_none : (id : RecordId) (position : ℕ) (places rest left : List Place) (cursor n : ℕ) → AllBefore id position (take cursor places) → rest ≡ drop cursor places
    → IsPartitionPoint (λ (place : Place). precedes id position place ≡ true) (λ (place : Place). precedes id position place ≡ false) rest n → left ≡ drop n rest → left ≡ [] → stands places id position ≡ false
found_none id position places rest left cursor n b r p l e = stands_left id position places rest left cursor n b r p l ∙ ap (λ (ps : List Place). stands ps id position) e

pub found_first : (id : RecordId) (position : ℕ) (places rest left : List Place) (cursor n : ℕ) (place : Place) (others : List Place) → Ascend places → AllBefore id position (take cursor places) → rest ≡ drop cursor places
    → IsPartitionPoint (λ (place : Place). precedes id position place ≡ true) (λ (place : Place). precedes id position place ≡ false) rest n → left ≡ drop n rest → left ≡ place ∷ others → stands places id position ≡ is_spot id position place
found_first id position places rest left cursor n place others a b r p l e =
    let order : Ascend (place ∷ others) = subst Ascend (sym l ∙ e) (ascend-drop n rest (subst Ascend (sym r) (ascend-drop cursor places a))) in
    let fails : AllByRecursion (λ (other : Place). precedes id position other ≡ false) (place ∷ others) =
    subst (AllByRecursion (λ (other : Place). precedes id position other ≡ false)) (sym l ∙ e) (all_left (λ (other : Place). precedes id position other ≡ false) n rest p.1) in
    stands_left id position places rest left cursor n b r p l
    ∙ (ap (λ (ps : List Place). stands ps id position) e
    ∙ stands_first id position place others order (λ before. both_ways (precedes id position place) fails.0 (test_from_before id position place before)))
