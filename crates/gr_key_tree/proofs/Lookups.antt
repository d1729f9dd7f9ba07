-- Look-ups in lists of pairs that are put together.
use Rattle.std.proofs.Common.{ℕ, ◌≡◌, ◌<◌, Bool, true, false, cond, List, [], ◌∷◌, ◌++◌, length, refl, sym, ap, subst, ◌∙◌, inl, inr, arith}
use Rattle.std.specs.Prelude.{◌≢◌, Option, Some, None, is_some}
use Rattle.std.specs.Option.{unwrap_or}
use Rattle.std.specs.declared.cmp.Ordering.{Ordering}
use Rattle.std.specs.declared.cmp.Ordering.TheVariants.{Less, Equal, Greater}
use Rattle.std.specs.Cmp.Lexicographic.{slice_cmp, nat_list_cmp_total}
use Rattle.std.specs.Cmp.{tied_itself}
use Rattle.std.specs.FinMap.{slice_cmp-IsAntisymmetric, nat_cmp-IsAntisymmetric}
use Rattle.std.specs.List.{Contains}
use Rattle.std.specs.Ordering.{nat_cmp, eq_by_cmp, is_eq}
use Rattle.std.proofs.lemmas.List.Elements.{Contains-append_cases, Contains-append_left, Contains-append_right, Contains-push, Contains-push_cases}
use Rattle.gr_key_tree.specs.Pairs.{Pair, lookup}
use Rattle.gr_base.specs.declared.numbers.RecordId.{RecordId}

tied : (r : Ordering) → is_eq r ≡ true → r ≡ Equal
tied Less e = absurd (cc)
tied Equal e = refl
tied Greater e = absurd (cc)

-- a list has a key
abbrev pub Has : List Pair → List ℕ → Type 0
Has pairs key = is_some (lookup pairs key) ≡ true

-- keys that tie are the same
pub same_key : (one other : List ℕ) → eq_by_cmp (slice_cmp nat_cmp) one other ≡ true → one ≡ other
same_key one other e = slice_cmp-IsAntisymmetric nat_cmp-IsAntisymmetric one other (tied (slice_cmp nat_cmp one other) e)

pub key_itself : (key : List ℕ) → eq_by_cmp (slice_cmp nat_cmp) key key ≡ true
key_itself key = ap is_eq (tied_itself nat_list_cmp_total key)

other_tie : (one other : List ℕ) → one ≢ other → (b : Bool) → eq_by_cmp (slice_cmp nat_cmp) one other ≡ b → b ≡ false
other_tie one other apart true e = absurd (apart (same_key one other e))
other_tie one other apart false e = refl

-- different keys do not tie
pub other_key : (one other : List ℕ) → one ≢ other → eq_by_cmp (slice_cmp nat_cmp) one other ≡ false
other_key one other apart = other_tie one other apart _ refl

pub data IsSame (one other : List ℕ) : Type 0 where
  same : one ≡ other → IsSame one other
  apart : one ≢ other → IsSame one other

compared : (one other : List ℕ) (b : Bool) → eq_by_cmp (slice_cmp nat_cmp) one other ≡ b → IsSame one other
compared one other true e = same (same_key one other e)
compared one other false e = apart (λ is. let itself = key_itself other in let f : eq_by_cmp (slice_cmp nat_cmp) other other ≡ false = rw is at e in cc)

-- two keys are the same or not
pub same_or_not : (one other : List ℕ) → IsSame one other
same_or_not one other = compared one other _ refl

-- a list has a key or not
pub data IsThere (pairs : List Pair) (key : List ℕ) : Type 0 where
  there : Has pairs key → IsThere pairs key
  missing : lookup pairs key ≡ None → IsThere pairs key

there_by : (pairs : List Pair) (key : List ℕ) (found : Option RecordId) → lookup pairs key ≡ found → IsThere pairs key
there_by pairs key None e = missing e
there_by pairs key (Some id) e = there (ap is_some e)

pub there_or_not : (pairs : List Pair) (key : List ℕ) → IsThere pairs key
there_or_not pairs key = there_by pairs key _ refl

pub has_some : (pairs : List Pair) (key : List ℕ) (id : RecordId) → lookup pairs key ≡ Some id → Has pairs key
has_some pairs key id e = ap is_some e

pub has_none : (pairs : List Pair) (key : List ℕ) → lookup pairs key ≡ None → Has pairs key → ⊥
has_none pairs key none has = let f : is_some (lookup pairs key) ≡ false = ap is_some none in cc

pub none_by : (pairs : List Pair) (key : List ℕ) → (Has pairs key → ⊥) → lookup pairs key ≡ None
none_by pairs key lacks = elim (there_or_not pairs key) [ there has ↦ absurd (lacks has) | missing e ↦ e ]

pub lookup_nil : (key : List ℕ) → lookup [] key ≡ None
unfolding lookup
lookup_nil key = refl

pub lookup_cons : (pair : Pair) (pairs : List Pair) (key : List ℕ) → lookup (pair ∷ pairs) key ≡ cond (eq_by_cmp (slice_cmp nat_cmp) key pair.0) (Some pair.1) (lookup pairs key)
unfolding lookup
lookup_cons pair pairs key = refl

pub lookup_here : (pair : Pair) (pairs : List Pair) → lookup (pair ∷ pairs) pair.0 ≡ Some pair.1
lookup_here pair pairs = lookup_cons pair pairs pair.0 ∙ ap (λ b. cond b (Some pair.1) (lookup pairs pair.0)) (key_itself pair.0)

pub lookup_past : (pair : Pair) (pairs : List Pair) (key : List ℕ) → key ≢ pair.0 → lookup (pair ∷ pairs) key ≡ lookup pairs key
lookup_past pair pairs key other = lookup_cons pair pairs key ∙ ap (λ b. cond b (Some pair.1) (lookup pairs key)) (other_key key pair.0 other)

-- where the first list lacks a key, the second decides
pub lookup_right : (left right : List Pair) (key : List ℕ) → lookup left key ≡ None → lookup (left ++ right) key ≡ lookup right key
lookup_right [] right key e = refl
lookup_right (pair ∷ left) right key e = elim (same_or_not key pair.0) [
  | same is ↦ absurd (has_none (pair ∷ left) key e (rw is (has_some (pair ∷ left) pair.0 pair.1 (lookup_here pair left))))
  | apart other ↦ lookup_past pair (left ++ right) key other ∙ lookup_right left right key (sym (lookup_past pair left key other) ∙ e)
]

-- where the first list has a key, it decides
pub lookup_left : (left right : List Pair) (key : List ℕ) → Has left key → lookup (left ++ right) key ≡ lookup left key
lookup_left [] right key has = absurd (has_none [] key (lookup_nil key) has)
lookup_left (pair ∷ left) right key has = elim (same_or_not key pair.0) [
  | same is ↦ rw is (lookup_here pair (left ++ right) ∙ sym (lookup_here pair left))
  | apart other ↦ let past = lookup_past pair left key other in
      lookup_past pair (left ++ right) key other ∙ lookup_left left right key (ap is_some (sym past) ∙ has) ∙ sym past
]

-- where the second list lacks a key, the first decides
pub lookup_first : (left right : List Pair) (key : List ℕ) → lookup right key ≡ None → lookup (left ++ right) key ≡ lookup left key
lookup_first left right key none = elim (there_or_not left key) [
  | there has ↦ lookup_left left right key has
  | missing e ↦ lookup_right left right key e ∙ none ∙ sym e
]

pub has_left : (left right : List Pair) (key : List ℕ) → Has left key → Has (left ++ right) key
has_left left right key has = ap is_some (lookup_left left right key has) ∙ has

pub has_right : (left right : List Pair) (key : List ℕ) → Has right key → Has (left ++ right) key
has_right left right key has = elim (there_or_not left key) [
  | there first ↦ has_left left right key first
  | missing e ↦ ap is_some (lookup_right left right key e) ∙ has
]

pub data IsOnSide (left right : List Pair) (key : List ℕ) : Type 0 where
  on_left : Has left key → IsOnSide left right key
  on_right : Has right key → IsOnSide left right key

-- a key of both lists is a key of one
pub has_cases : (left right : List Pair) (key : List ℕ) → Has (left ++ right) key → IsOnSide left right key
has_cases left right key has = elim (there_or_not left key) [
  | there first ↦ on_left first
  | missing e ↦ on_right (ap is_some (sym (lookup_right left right key e)) ∙ has)
]

-- a list that is not empty has a key
pub some_key : (pairs : List Pair) → 0 < length pairs → (key : List ℕ) × Has pairs key
some_key [] some = absurd (omega arith)
some_key (pair ∷ pairs) some = (pair.0, has_some (pair ∷ pairs) pair.0 pair.1 (lookup_here pair pairs))

-- a list that has a key is not empty
pub not_empty : (pairs : List Pair) (key : List ℕ) → Has pairs key → 0 < length pairs
not_empty [] key has = absurd (has_none [] key (lookup_nil key) has)
not_empty (pair ∷ pairs) key has = omega arith

-- one pair at the end whose key is new
pub lookup_pushed : (pairs : List Pair) (pair : Pair) → lookup pairs pair.0 ≡ None → lookup (pairs ++ pair ∷ []) pair.0 ≡ Some pair.1
lookup_pushed pairs pair none = lookup_right pairs (pair ∷ []) pair.0 none ∙ lookup_here pair []

pub lookup_before_pushed : (pairs : List Pair) (pair : Pair) (key : List ℕ) → key ≢ pair.0 → lookup (pairs ++ pair ∷ []) key ≡ lookup pairs key
lookup_before_pushed pairs pair key other = lookup_first pairs (pair ∷ []) key (lookup_past pair [] key other ∙ lookup_nil key)

same_some : {X : Type 0} (x y : X) → Some x ≡ Some y → x ≡ y
same_some x y e = ap (λ o. unwrap_or o x) e

contains_first : (pair : Pair) (pairs : List Pair) → Contains (pair ∷ pairs) pair
contains_first pair pairs = Contains-append_left (pair ∷ []) pairs pair (Contains-push [] pair)

-- a key that is found stands in the list with its id
pub contains_found : (pairs : List Pair) (key : List ℕ) (id : RecordId) → lookup pairs key ≡ Some id → Contains pairs (key, id)
contains_found [] key id e = absurd (has_none [] key (lookup_nil key) (has_some [] key id e))
contains_found (pair ∷ pairs) key id e = elim (same_or_not key pair.0) [
  | same is ↦ let first : Some pair.1 ≡ Some id = sym (lookup_here pair pairs) ∙ ap (lookup (pair ∷ pairs)) (sym is) ∙ e in
      subst (λ (p : Pair). Contains (pair ∷ pairs) p) (λ i. (sym is i, same_some pair.1 id first i)) (contains_first pair pairs)
  | apart other ↦ Contains-append_right (pair ∷ []) pairs (key, id) (contains_found pairs key id (sym (lookup_past pair pairs key other) ∙ e))
]

-- a key that stands in the list is there
pub has_contained : (pairs : List Pair) (pair : Pair) → Contains pairs pair → Has pairs pair.0
has_contained [] pair c = absurd (omega (arith, c.1))
has_contained (first ∷ pairs) pair c = elim (Contains-append_cases (first ∷ []) pairs pair c) [
  | inl one ↦ elim (Contains-push_cases [] first pair one) [
    | inl none ↦ absurd (omega (arith, none.1))
    | inr is ↦ rw (← is) (has_some (first ∷ pairs) first.0 first.1 (lookup_here first pairs))
  ]
  | inr more ↦ has_right (first ∷ []) pairs pair.0 (has_contained pairs pair more)
]
