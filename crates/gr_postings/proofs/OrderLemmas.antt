-- Postings that a sort left in order, and those of one term among them.
use Rattle.std.proofs.Common.{◌≡◌, ℕ, zero, suc, ◌+◌, ◌-◌, ◌<◌, ◌≤◌, Bool, true, false, ◌&&◌, cond, eqb, ltb, leb, List, [], ◌∷◌, map, length, get_or, take, drop, refl, sym, ap, subst, ◌∙◌, arith}
use Rattle.std.specs.Cmp.{IsTotalOrder}
use Rattle.std.specs.List.{AllByRecursion, IsDistinct, filter}
use Rattle.std.specs.List.Sorted.{IsSorted, IsStrictlySortedBy, IsPermutation, IsPartitionPoint}
use Rattle.std.specs.Ordering.{eq_by_cmp, is_eq, is_lt, nat_cmp, ordering_reverse, ordering_then}
use Rattle.std.specs.declared.cmp.Ordering.{Ordering}
use Rattle.std.specs.declared.cmp.Ordering.TheVariants.{Less, Equal, Greater}
use Rattle.std.proofs.lemmas.Bool.Decides.{nat_tests}
use Rattle.std.proofs.lemmas.Cmp.{nat_cmp_total, on_total, then_total, eq_by_cmp_equiv}
use Rattle.std.proofs.lemmas.List.{get_or-drop, length-drop}
use Rattle.std.proofs.lemmas.List.Elements.{All-from_recursion, recursion_from_All}
use Rattle.std.proofs.lemmas.List.Sorted.{ranks_by, sorted_far}
use Rattle.std.proofs.lemmas.Map.Keys.{IsDistinct-head, IsDistinct-tail, IsDistinct-IsPermutation}
use Rattle.gr_postings.specs.Postings.{posting_cmp, posting_of, IsInOrder, has_same_place}
use Rattle.gr_postings.specs.declared.posting.Posting.{Posting}
use Rattle.gr_postings.specs.declared.view.PostingView.{PostingView}

-- what is neither equal nor reversed is less
less_left : (o p : Ordering) → o ≡ ordering_reverse p → is_lt p ≡ false → is_eq o ≡ false → o ≡ Less
less_left o Less e l n = cc
less_left o Equal e l n = let h : is_eq o ≡ true = ap is_eq e in cc
less_left o Greater e l n = e

sorted_tail : {X : Type 0} (R : X → X → Ordering) (x : X) (xs : List X) → IsSorted R (x ∷ xs) → IsSorted R xs
sorted_tail R x xs s = λ k d l h.
    let e : suc k + 1 ≡ suc (k + 1) = omega arith in
    subst (λ (n : ℕ). is_lt (R (get_or (x ∷ xs) n d) (get_or xs k d)) ≡ false) e (s (suc k) d (omega arith) (omega arith))

-- what ascends and has no equal elements ascends strictly
pub strictly_sorted : {X : Type 0} {R : X → X → Ordering} → IsTotalOrder R → (xs : List X) → IsSorted R xs → IsDistinct (eq_by_cmp R) xs → IsStrictlySortedBy R xs
unfolding IsStrictlySortedBy
strictly_sorted o [] s d = tt
strictly_sorted {X} {R} o (x ∷ xs) s d =
    let apart = All-from_recursion (λ y. eq_by_cmp R x y ≡ false) xs (IsDistinct-head (eq_by_cmp R) x xs d) in
    let far = sorted_far (λ (a b : X). is_lt (R a b)) (ranks_by o (λ (a : X). a)) (x ∷ xs) s in (
      recursion_from_All (λ y. R x y ≡ Less) xs (λ k e l. less_left (R x (get_or xs k e)) (R (get_or xs k e) x) (o.antisymm x (get_or xs k e)) (far 0 (suc k) e (omega arith) (omega arith)) (apart k e l)),
      strictly_sorted o xs (sorted_tail R x xs s) (IsDistinct-tail (eq_by_cmp R) x xs d),
    )

all_map : {X Y : Type 0} (f : X → Y) (P : Y → Type 0) (xs : List X) → AllByRecursion (λ x. P (f x)) xs → AllByRecursion P (map f xs)
all_map f P [] a = tt
all_map f P (x ∷ xs) a = (a.0, all_map f P xs a.1)

all_unmap : {X Y : Type 0} (f : X → Y) (P : Y → Type 0) (xs : List X) → AllByRecursion P (map f xs) → AllByRecursion (λ x. P (f x)) xs
all_unmap f P [] a = tt
all_unmap f P (x ∷ xs) a = (a.0, all_unmap f P xs a.1)

all_weaker : {X : Type 0} (P Q : X → Type 0) → ((x : X) → P x → Q x) → (xs : List X) → AllByRecursion P xs → AllByRecursion Q xs
all_weaker P Q w [] a = tt
all_weaker P Q w (x ∷ xs) a = (w x a.0, all_weaker P Q w xs a.1)

-- what is strictly in order by what it shows, shows what is strictly in order
pub strictly_sorted-map : {X Y : Type 0} (f : X → Y) (R : Y → Y → Ordering) (xs : List X) → IsStrictlySortedBy (λ a b. R (f a) (f b)) xs → IsStrictlySortedBy R (map f xs)
unfolding IsStrictlySortedBy
strictly_sorted-map f R [] s = tt
strictly_sorted-map f R (x ∷ xs) s = (all_map f (λ y. R (f x) y ≡ Less) xs s.0, strictly_sorted-map f R xs s.1)

-- what shows distinct elements is distinct by what it shows
pub distinct_unmap : {X Y : Type 0} (f : X → Y) (e : Y → Y → Bool) (xs : List X) → IsDistinct e (map f xs) → IsDistinct (λ a b. e (f a) (f b)) xs
unfolding IsDistinct
distinct_unmap f e [] d = tt
distinct_unmap f e (x ∷ xs) d = (all_unmap f (λ y. e (f x) y ≡ false) xs d.0, distinct_unmap f e xs d.1)

-- what is apart by one test is apart by a narrower one
pub distinct_narrower : {X : Type 0} (e f : X → X → Bool) → ((x y : X) → e x y ≡ false → f x y ≡ false) → (xs : List X) → IsDistinct e xs → IsDistinct f xs
unfolding IsDistinct
distinct_narrower e f n [] d = tt
distinct_narrower e f n (x ∷ xs) d = (all_weaker (λ y. e x y ≡ false) (λ y. f x y ≡ false) (n x) xs d.0, distinct_narrower e f n xs d.1)

-- by term, record and place
pub posting_total : IsTotalOrder posting_cmp
posting_total = then_total (then_total (on_total (λ p. p.term.0) nat_cmp_total) (on_total (λ p. p.id.0) nat_cmp_total)) (on_total (λ p. p.place) nat_cmp_total)

-- two orders in turn are equal where both are
equal_then : (o p : Ordering) → is_eq (ordering_then o p) ≡ (is_eq o && is_eq p)
equal_then Less p = refl
equal_then Equal p = refl
equal_then Greater p = refl

equal_numbers : (a b : ℕ) → is_eq (nat_cmp a b) ≡ eqb a b
equal_numbers a b = grind (arith, nat_tests)

-- postings are equal in the order where they have one term, record and place
pub equal_place : (p q : Posting) → eq_by_cmp posting_cmp p q ≡ has_same_place p q
equal_place p q =
    let terms = nat_cmp p.term.0 q.term.0 in
    let ids = nat_cmp p.id.0 q.id.0 in
    let places = nat_cmp p.place q.place in
    equal_then (ordering_then terms ids) places
    ∙ (ap (λ b. b && is_eq places) (equal_then terms ids)
    ∙ (ap (λ b. (b && is_eq ids) && is_eq places) (equal_numbers p.term.0 q.term.0)
    ∙ (ap (λ b. (eqb p.term.0 q.term.0 && b) && is_eq places) (equal_numbers p.id.0 q.id.0)
    ∙ ap (λ b. (eqb p.term.0 q.term.0 && eqb p.id.0 q.id.0) && b) (equal_numbers p.place q.place))))

-- a sort of postings of which no two have one term, record and place leaves them in order
pub in_order : (xs ys : List Posting) → IsDistinct has_same_place xs → IsPermutation xs ys → IsSorted posting_cmp ys → IsInOrder ys
in_order xs ys d p s =
    let apart = distinct_narrower has_same_place (eq_by_cmp posting_cmp) (λ (a b : Posting) h. equal_place a b ∙ h) xs d in
    strictly_sorted posting_total ys s (IsDistinct-IsPermutation (eq_by_cmp posting_cmp) (eq_by_cmp_equiv posting_total).symm xs ys p apart)

-- the same of lent postings
abbrev pub view_cmp : PostingView → PostingView → Ordering
view_cmp a b = posting_cmp (posting_of a) (posting_of b)

view_total : IsTotalOrder view_cmp
view_total = on_total posting_of posting_total

pub views_in_order : (xs ys : List PostingView) → IsDistinct has_same_place (map posting_of xs) → IsPermutation xs ys → IsSorted view_cmp ys → IsInOrder (map posting_of ys)
views_in_order xs ys d p s =
    let apart = distinct_unmap posting_of (eq_by_cmp posting_cmp) xs (distinct_narrower has_same_place (eq_by_cmp posting_cmp) (λ (a b : Posting) h. equal_place a b ∙ h) (map posting_of xs) d) in
    strictly_sorted-map posting_of posting_cmp ys (strictly_sorted view_total ys s (IsDistinct-IsPermutation (eq_by_cmp view_cmp) (eq_by_cmp_equiv view_total).symm xs ys p apart))

-- one that stands before has no higher term
no_higher : (a b : ℕ) (o p : Ordering) → ordering_then (ordering_then (nat_cmp a b) o) p ≡ Less → a ≤ b
no_higher a b o p h = grind (arith, nat_tests)

no_higher_term : (p q : Posting) → posting_cmp p q ≡ Less → p.term.0 ≤ q.term.0
no_higher_term p q h = no_higher p.term.0 q.term.0 (nat_cmp p.id.0 q.id.0) (nat_cmp p.place q.place) h

-- terms do not fall
pub terms_rise : (xs : List Posting) → IsInOrder xs → (i j : ℕ) (d : Posting) → i ≤ j → j < length xs → (get_or xs i d).term.0 ≤ (get_or xs j d).term.0
unfolding IsStrictlySortedBy
terms_rise [] s i j d a b = absurd (omega arith)
terms_rise (x ∷ xs) s zero zero d a b = omega arith
terms_rise (x ∷ xs) s zero (suc j) d a b = no_higher_term x (get_or xs j d) (All-from_recursion (λ y. posting_cmp x y ≡ Less) xs s.0 j d (omega arith))
terms_rise (x ∷ xs) s (suc i) zero d a b = absurd (omega arith)
terms_rise (x ∷ xs) s (suc i) (suc j) d a b = terms_rise xs s.1 i j d (omega arith) (omega arith)

-- what fails a test at the front is not among what passes it
pub filter_drop : {X : Type 0} (p : X → Bool) (xs : List X) (i : ℕ) → ((k : ℕ) (d : X) → k < i → p (get_or xs k d) ≡ false) → filter p (drop i xs) ≡ filter p xs
filter_drop p xs zero f = refl
filter_drop p [] (suc i) f = refl
filter_drop p (x ∷ xs) (suc i) f = filter_drop p xs i (λ k d l. f (suc k) d (omega arith)) ∙ sym (ap (λ t. cond t (x ∷ filter p xs) (filter p xs)) (f 0 x (omega arith)))

-- where nothing passes, a filter is empty
filter_none : {X : Type 0} (p : X → Bool) (xs : List X) → ((k : ℕ) (d : X) → k < length xs → p (get_or xs k d) ≡ false) → [] ≡ filter p xs
filter_none p [] f = refl
filter_none p (x ∷ xs) f = filter_none p xs (λ k d l. f (suc k) d (omega arith)) ∙ sym (ap (λ t. cond t (x ∷ filter p xs) (filter p xs)) (f 0 x (omega arith)))

-- where what passes stands at the front, a filter is the front
pub filter_take : {X : Type 0} (p : X → Bool) (xs : List X) (j : ℕ) → ((k : ℕ) (d : X) → k < j → p (get_or xs k d) ≡ true) → ((k : ℕ) (d : X) → j ≤ k → k < length xs → p (get_or xs k d) ≡ false) → take j xs ≡ filter p xs
filter_take p xs zero g h = filter_none p xs (λ k d l. h k d (omega arith) l)
filter_take p [] (suc j) g h = refl
filter_take p (x ∷ xs) (suc j) g h =
    ap (λ ys. x ∷ ys) (filter_take p xs j (λ k d l. g (suc k) d (omega arith)) (λ k d l m. h (suc k) d (omega arith) (omega arith)))
    ∙ sym (ap (λ t. cond t (x ∷ filter p xs) (filter p xs)) (g 0 x (omega arith)))

-- what comparisons of a term say of its equality
pub lower_differs : (a t : ℕ) → ltb a t ≡ true → eqb a t ≡ false
lower_differs a t h = grind (arith, nat_tests)

pub higher_differs : (a t : ℕ) → leb a t ≡ false → eqb a t ≡ false
higher_differs a t h = grind (arith, nat_tests)

pub neither_differs : (a t : ℕ) → ltb a t ≡ false → leb a t ≡ true → eqb a t ≡ true
neither_differs a t h k = grind (arith, nat_tests)

-- the first of those that are no lower than a term, up to those that are higher, are those of the term
pub of_term_is : (xs rest : List Posting) (t i j : ℕ) → rest ≡ drop i xs → j ≤ length rest → IsPartitionPoint (λ p. ltb p.term.0 t ≡ true) (λ p. ltb p.term.0 t ≡ false) xs i → IsPartitionPoint (λ p. leb p.term.0 t ≡ true) (λ p. leb p.term.0 t ≡ false) rest j → take j rest ≡ filter (λ p. eqb p.term.0 t) xs
of_term_is xs rest t i j back within low high =
    let same : (k : ℕ) (d : Posting) → get_or rest k d ≡ get_or xs (i + k) d = λ k d. ap (λ ps. get_or ps k d) back ∙ get_or-drop i xs k d in
    let long : length rest ≡ length xs - i = ap length back ∙ length-drop i xs in
    let no_lower : (k : ℕ) (d : Posting) → k < j → ltb (get_or rest k d).term.0 t ≡ false = λ k d l. ap (λ p. ltb p.term.0 t) (same k d) ∙ low.1 (i + k) d (omega arith) (omega arith) in
    filter_take (λ p. eqb p.term.0 t) rest j
    (λ k d l. neither_differs (get_or rest k d).term.0 t (no_lower k d l) (high.0 k d (omega arith) l))
    (λ k d l m. higher_differs (get_or rest k d).term.0 t (high.1 k d l m))
    ∙ (ap (filter (λ p. eqb p.term.0 t)) back
    ∙ filter_drop (λ p. eqb p.term.0 t) xs i (λ k d l. lower_differs (get_or xs k d).term.0 t (low.0 k d (omega arith) l)))
