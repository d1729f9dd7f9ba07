-- Lists in which each pair is found by its key, and the ids of those whose keys begin with a prefix.
use Rattle.std.proofs.Common.{ℕ, ◌≡◌, Bool, true, false, cond, List, [], ◌∷◌, ◌++◌, map, refl, sym, ap, subst, ◌∙◌, inl, inr, arith}
use Rattle.std.specs.Prelude.{◌==◌, None, Some}
use Rattle.std.specs.Cmp.Lexicographic.{slice_cmp}
use Rattle.std.specs.FinMap.Entries.{find-where_key}
use Rattle.std.specs.FinMap.{slice_cmp-IsAntisymmetric, nat_cmp-IsAntisymmetric}
use Rattle.std.specs.List.{Contains, filter, starts_with}
use Rattle.std.specs.Ordering.{nat_cmp}
use Rattle.std.proofs.lemmas.List.Elements.{All-contains, All-contains_itself, All-filter, filter_passes, Contains-append_cases, Contains-append_left, Contains-append_right, Contains-push, Contains-push_cases}
use Rattle.std.proofs.lemmas.List.{get_or-map, length-map}
use Rattle.gr_key_tree.specs.Inside.Held.{numbers_with, AreHeld}
use Rattle.gr_key_tree.specs.Pairs.{Pair, lookup}
use Rattle.std.specs.Cmp.{IsTotalOrder, tied_itself}
use Rattle.std.specs.Ordering.{is_gt, is_lt}
use Rattle.std.specs.declared.cmp.Ordering.{Ordering}
use Rattle.std.proofs.lemmas.List.{append-nil, map-append}
use Rattle.std.proofs.lemmas.List.Elements.{filter-append}
use Rattle.gr_key_tree.specs.Order.{key_cmp, IsNoneBefore, IsNoneFrom}
use Rattle.gr_key_tree.specs.Inside.Rising.{Below, Above, Rising}
use Rattle.gr_key_tree.specs.Inside.Parts.{IsFirst}
use Rattle.gr_key_tree.proofs.Rising.{key_total, rising_above}
use Rattle.gr_key_tree.proofs.Changes.{lookup_above}
use Rattle.gr_key_tree.proofs.Lookups.{has_none, has_some, lookup_here, lookup_past, contains_found}

-- each pair is found by its key
pub record IsExact (pairs : List Pair) : Type 0 where
  pub found : (pair : Pair) → Contains pairs pair → lookup pairs pair.0 ≡ Some pair.1

-- a filter by a test of keys
pub lookup_filter : (test : List ℕ → Bool) (pairs : List Pair) (key : List ℕ) → lookup (filter (λ pair. test pair.0) pairs) key ≡ cond (test key) (lookup pairs key) None
unfolding lookup
lookup_filter test pairs key = find-where_key (slice_cmp nat_cmp) test key (λ other tie. ap test (sym (slice_cmp-IsAntisymmetric nat_cmp-IsAntisymmetric key other tie))) pairs

-- what a filter keeps
pub contains_filter : {X : Type 0} (test : X → Bool) (xs : List X) (x : X) → Contains (filter test xs) x → Contains xs x × (test x ≡ true)
contains_filter {X} test xs x c = (All-contains (Contains xs) (filter test xs) x (All-filter test (Contains xs) xs (All-contains_itself xs)) c, All-contains (λ (y : X). test y ≡ true) (filter test xs) x (filter_passes test xs) c)

pub contains_map : {X Y : Type 0} (f : X → Y) (xs : List X) (x : X) → Contains xs x → Contains (map f xs) (f x)
contains_map f xs x c = let len = length-map xs f in (c.0, (let lt = c.1 in omega arith), get_or-map f xs c.0 x (f x) c.1 ∙ ap f c.2)

pub from_map : {X Y : Type 0} (f : X → Y) (xs : List X) (y : Y) → Contains (map f xs) y → (x : X) × Contains xs x × (f x ≡ y)
from_map f [] y c = absurd (omega (arith, c.1))
from_map f (x ∷ xs) y c = elim (Contains-append_cases (f x ∷ []) (map f xs) y c) [
  | inl one ↦ elim (Contains-push_cases [] (f x) y one) [
    | inl none ↦ absurd (omega (arith, none.1))
    | inr is ↦ (x, Contains-append_left (x ∷ []) xs x (Contains-push [] x), is)
  ]
  | inr more ↦ let rest = from_map f xs y more in (rest.0, Contains-append_right (x ∷ []) xs rest.0 rest.1, rest.2)
]

pub held_exact : (pairs : List Pair) (prefix : List ℕ) → IsExact pairs → AreHeld pairs prefix (numbers_with prefix pairs)
unfolding numbers_with
held_exact pairs prefix exact = record {
  sound = λ number c.
      let from = from_map (λ (p : Pair). p.1.0) (filter (λ (p : Pair). starts_with ◌==◌ p.0 prefix) pairs) number c in
      let kept = contains_filter (λ (p : Pair). starts_with ◌==◌ p.0 prefix) pairs from.0 from.1 in
      record { key = from.0.0; begins = kept.1; has = exact.found from.0 kept.0 ∙ ap Some (λ i. record { 0 = from.2 i }) };
  complete = λ number held.
      let kept = lookup_filter (λ (k : List ℕ). starts_with ◌==◌ k prefix) pairs held.key ∙ ap (λ b. cond b (lookup pairs held.key) None) held.begins ∙ held.has in
      contains_map (λ (p : Pair). p.1.0) _ (held.key, record { 0 = number }) (contains_found (filter (λ (p : Pair). starts_with ◌==◌ p.0 prefix) pairs) held.key (record { 0 = number }) kept);
}

-- ---- the numbers of a prefix, pair by pair
module _ {X : Type 0} where
  filter_kept : (p : X → Bool) (xs : List X) (x : X) → p x ≡ true → filter p (xs ++ x ∷ []) ≡ filter p xs ++ x ∷ []
  filter_kept p xs x is = filter-append p xs (x ∷ []) ∙ ap (λ b. filter p xs ++ cond b (x ∷ []) []) is

  filter_dropped : (p : X → Bool) (xs : List X) (x : X) → p x ≡ false → filter p (xs ++ x ∷ []) ≡ filter p xs
  filter_dropped p xs x is = filter-append p xs (x ∷ []) ∙ ap (λ b. filter p xs ++ cond b (x ∷ []) []) is ∙ append-nil (filter p xs)

pub numbers_nil : (prefix : List ℕ) → numbers_with prefix [] ≡ []
unfolding numbers_with
numbers_nil prefix = refl

pub numbers_kept : (prefix : List ℕ) (pairs : List Pair) (pair : Pair) → starts_with ◌==◌ pair.0 prefix ≡ true → numbers_with prefix (pairs ++ pair ∷ []) ≡ numbers_with prefix pairs ++ pair.1.0 ∷ []
unfolding numbers_with
numbers_kept prefix pairs pair is = ap (map (λ (p : Pair). p.1.0)) (filter_kept _ pairs pair is) ∙ map-append _ (filter _ pairs) (pair ∷ [])

pub numbers_dropped : (prefix : List ℕ) (pairs : List Pair) (pair : Pair) → starts_with ◌==◌ pair.0 prefix ≡ false → numbers_with prefix (pairs ++ pair ∷ []) ≡ numbers_with prefix pairs
unfolding numbers_with
numbers_dropped prefix pairs pair is = ap (map (λ (p : Pair). p.1.0)) (filter_dropped _ pairs pair is)

pub numbers_append : (prefix : List ℕ) (left right : List Pair) → numbers_with prefix (left ++ right) ≡ numbers_with prefix left ++ numbers_with prefix right
unfolding numbers_with
numbers_append prefix left right = ap (map (λ (p : Pair). p.1.0)) (filter-append _ left right) ∙ map-append _ (filter _ left) (filter _ right)

numbers_past : (prefix : List ℕ) (pair : Pair) (pairs : List Pair) → starts_with ◌==◌ pair.0 prefix ≡ false → numbers_with prefix pairs ≡ [] → numbers_with prefix (pair ∷ pairs) ≡ []
unfolding numbers_with
numbers_past prefix pair pairs is none = ap (λ b. map (λ (p : Pair). p.1.0) (cond b (pair ∷ filter (λ (p : Pair). starts_with ◌==◌ p.0 prefix) pairs) (filter (λ (p : Pair). starts_with ◌==◌ p.0 prefix) pairs))) is ∙ none

-- ---- keys that are known not to begin with a prefix
module _ (state_of : List ℕ → ℕ) (prefix cut : List ℕ) where
  pub none_below : IsNoneBefore state_of prefix cut → (pairs : List Pair) → Below (key_cmp state_of) (λ pair. pair.0) cut pairs → numbers_with prefix pairs ≡ []
  unfolding Below
  none_below none [] h = numbers_nil prefix
  none_below none (pair ∷ pairs) h = numbers_past prefix pair pairs (none.none pair.0 (ap is_lt h.0)) (none_below none pairs h.1)

  none_after : IsNoneFrom state_of prefix cut → (pairs : List Pair) → Above (key_cmp state_of) (λ pair. pair.0) cut pairs → numbers_with prefix pairs ≡ []
  unfolding Above
  none_after none [] h = numbers_nil prefix
  none_after none (pair ∷ pairs) h = numbers_past prefix pair pairs (none.none pair.0 (ap is_gt h.0)) (none_after none pairs h.1)

  pub none_first : IsNoneFrom state_of prefix cut → (pairs : List Pair) → IsFirst cut pairs → Rising (key_cmp state_of) (λ pair. pair.0) pairs → numbers_with prefix pairs ≡ []
  none_first none pairs first rising =
      let o = key_total state_of in
      rw first.is (numbers_past prefix (cut, first.id) first.rest (none.none cut (ap is_gt (tied_itself o cut)))
      (none_after none first.rest (rising_above (key_cmp state_of) o (λ (pair : Pair). pair.0) (cut, first.id) first.rest (rw (← first.is) rising))))

-- ---- pairs whose keys rise are exact
module _ (cmp : List ℕ → List ℕ → Ordering) (o : IsTotalOrder cmp) where
  pub rising_exact : (pairs : List Pair) → Rising cmp (λ pair. pair.0) pairs → IsExact pairs
  unfolding Rising
  rising_exact [] h = record { found = λ pair c. absurd (omega (arith, c.1)) }
  rising_exact (first ∷ pairs) h = record {
    found = λ pair c. elim (Contains-append_cases (first ∷ []) pairs pair c) [
      | inl one ↦ elim (Contains-push_cases [] first pair one) [
        | inl none ↦ absurd (omega (arith, none.1))
        | inr is ↦ subst (λ (p : Pair). lookup (first ∷ pairs) p.0 ≡ Some p.1) is (lookup_here first pairs)
      ]
      | inr more ↦
          let there = (rising_exact pairs h.1).found pair more in
          lookup_past first pairs pair.0 (λ is. has_none pairs first.0 (lookup_above cmp o first.0 pairs h.0) (has_some pairs first.0 pair.1 (ap (lookup pairs) (sym is) ∙ there))) ∙ there
    ];
  }

pub nil_rising : (state_of : List ℕ → ℕ) → Rising (key_cmp state_of) (λ (pair : Pair). pair.0) []
unfolding Rising
nil_rising state_of = tt
