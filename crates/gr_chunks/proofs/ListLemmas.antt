-- Steps along a list, and facts on each element.
use Rattle.std.proofs.Common.{◌≡◌, ℕ, zero, suc, ◌+◌, ◌<◌, ◌≤◌, Bool, true, false, cond, List, [], ◌∷◌, ◌++◌, map, length, get_or, take, drop, refl, sym, ap, ◌∙◌, arith}
use Rattle.std.specs.List.{AllByRecursion, IsDistinct, filter, flat_map}
use Rattle.std.specs.List.Sorted.{IsStrictlySortedBy}
use Rattle.std.specs.declared.cmp.Ordering.{Ordering}
use Rattle.std.specs.declared.cmp.Ordering.TheVariants.{Less}
use Rattle.std.proofs.lemmas.List.{append_assoc, drop_more, take_more, map-append, take-take, drop-take, take-append-drop}
use Rattle.std.proofs.lemmas.List.Elements.{All-from_recursion}

-- one element more is behind, and one less ahead
pub taken_more : {X Y : Type 0} (f : X → Y) (xs : List X) (i : ℕ) (x : X) → i < length xs → x ≡ get_or xs i x → map f (take (i + 1) xs) ≡ map f (take i xs) ++ f x ∷ []
taken_more f xs i x h e = ap (map f) (take_more xs i x h) ∙ (map-append f (take i xs) (get_or xs i x ∷ []) ∙ ap (λ y. map f (take i xs) ++ f y ∷ []) (sym e))

pub left_more : {X : Type 0} (xs : List X) (i : ℕ) (x : X) → i < length xs → x ≡ get_or xs i x → drop i xs ≡ x ∷ drop (i + 1) xs
left_more xs i x h e = drop_more xs i x h ∙ ap (λ y. y ∷ drop (i + 1) xs) (sym e)

pub all_map : {X Y : Type 0} (f : X → Y) (P : Y → Type 0) (xs : List X) → AllByRecursion (λ x. P (f x)) xs → AllByRecursion P (map f xs)
all_map f P [] a = tt
all_map f P (x ∷ xs) a = (a.0, all_map f P xs a.1)

pub all_unmap : {X Y : Type 0} (f : X → Y) (P : Y → Type 0) (xs : List X) → AllByRecursion P (map f xs) → AllByRecursion (λ x. P (f x)) xs
all_unmap f P [] a = tt
all_unmap f P (x ∷ xs) a = (a.0, all_unmap f P xs a.1)

pub all_weaker : {X : Type 0} (P Q : X → Type 0) → ((x : X) → P x → Q x) → (xs : List X) → AllByRecursion P xs → AllByRecursion Q xs
all_weaker P Q w [] a = tt
all_weaker P Q w (x ∷ xs) a = (w x a.0, all_weaker P Q w xs a.1)

pub all_both : {X : Type 0} (P : X → Type 0) (xs ys : List X) → AllByRecursion P xs → AllByRecursion P ys → AllByRecursion P (xs ++ ys)
all_both P [] ys a b = b
all_both P (x ∷ xs) ys a b = (a.0, all_both P xs ys a.1 b)

pub all_left : {X : Type 0} (P : X → Type 0) (xs ys : List X) → AllByRecursion P (xs ++ ys) → AllByRecursion P xs
all_left P [] ys a = tt
all_left P (x ∷ xs) ys a = (a.0, all_left P xs ys a.1)

pub all_right : {X : Type 0} (P : X → Type 0) (xs ys : List X) → AllByRecursion P (xs ++ ys) → AllByRecursion P ys
all_right P [] ys a = a
all_right P (x ∷ xs) ys a = all_right P xs ys a.1

pub all_take : {X : Type 0} (P : X → Type 0) (n : ℕ) (xs : List X) → AllByRecursion P xs → AllByRecursion P (take n xs)
all_take P zero xs a = tt
all_take P (suc n) [] a = tt
all_take P (suc n) (x ∷ xs) a = (a.0, all_take P n xs a.1)

pub all_drop : {X : Type 0} (P : X → Type 0) (n : ℕ) (xs : List X) → AllByRecursion P xs → AllByRecursion P (drop n xs)
all_drop P zero xs a = a
all_drop P (suc n) [] a = tt
all_drop P (suc n) (x ∷ xs) a = all_drop P n xs a.1

kept_all : {X : Type 0} (P : X → Type 0) (x : X) (xs : List X) (t : Bool) → P x → AllByRecursion P xs → AllByRecursion P (cond t (x ∷ xs) xs)
kept_all P x xs true a b = (a, b)
kept_all P x xs false a b = b

pub all_filter : {X : Type 0} (P : X → Type 0) (p : X → Bool) (xs : List X) → AllByRecursion P xs → AllByRecursion P (filter p xs)
all_filter P p [] a = tt
all_filter P p (x ∷ xs) a = kept_all P x (filter p xs) (p x) a.0 (all_filter P p xs a.1)

kept_distinct : {X : Type 0} (e : X → X → Bool) (x : X) (xs : List X) (t : Bool) → AllByRecursion (λ y. e x y ≡ false) xs → IsDistinct e xs → IsDistinct e (cond t (x ∷ xs) xs)
unfolding IsDistinct
kept_distinct e x xs true a d = (a, d)
kept_distinct e x xs false a d = d

-- what a test keeps of distinct elements is distinct
pub distinct_filter : {X : Type 0} (e : X → X → Bool) (p : X → Bool) (xs : List X) → IsDistinct e xs → IsDistinct e (filter p xs)
unfolding IsDistinct
distinct_filter e p [] d = tt
distinct_filter e p (x ∷ xs) d = kept_distinct e x (filter p xs) (p x) (all_filter (λ y. e x y ≡ false) p xs d.0) (distinct_filter e p xs d.1)

-- the parts of a list in order are in order
pub sorted_take : {X : Type 0} (R : X → X → Ordering) (n : ℕ) (xs : List X) → IsStrictlySortedBy R xs → IsStrictlySortedBy R (take n xs)
unfolding IsStrictlySortedBy
sorted_take R zero xs s = tt
sorted_take R (suc n) [] s = tt
sorted_take R (suc n) (x ∷ xs) s = (all_take (λ y. R x y ≡ Less) n xs s.0, sorted_take R n xs s.1)

pub sorted_drop : {X : Type 0} (R : X → X → Ordering) (n : ℕ) (xs : List X) → IsStrictlySortedBy R xs → IsStrictlySortedBy R (drop n xs)
unfolding IsStrictlySortedBy
sorted_drop R zero xs s = s
sorted_drop R (suc n) [] s = tt
sorted_drop R (suc n) (x ∷ xs) s = sorted_drop R n xs s.1

-- one more that stands behind all is in order
pub sorted_push : {X : Type 0} (R : X → X → Ordering) (xs : List X) (y : X) → IsStrictlySortedBy R xs → AllByRecursion (λ x. R x y ≡ Less) xs → IsStrictlySortedBy R (xs ++ y ∷ [])
unfolding IsStrictlySortedBy
sorted_push R [] y s a = (tt, tt)
sorted_push R (x ∷ xs) y s a = (all_both (λ z. R x z ≡ Less) xs (y ∷ []) s.0 (a.0, tt), sorted_push R xs y s.1 a.1)

-- an earlier one stands before a later one
pub sorted_at : {X : Type 0} (R : X → X → Ordering) (xs : List X) → IsStrictlySortedBy R xs → (i j : ℕ) (d : X) → i < j → j < length xs → R (get_or xs i d) (get_or xs j d) ≡ Less
unfolding IsStrictlySortedBy
sorted_at R [] s i j d a b = absurd (omega arith)
sorted_at R (x ∷ xs) s i zero d a b = absurd (omega arith)
sorted_at R (x ∷ xs) s zero (suc j) d a b = All-from_recursion (λ y. R x y ≡ Less) xs s.0 j d (omega arith)
sorted_at R (x ∷ xs) s (suc i) (suc j) d a b = sorted_at R xs s.1 i j d (omega arith) (omega arith)

-- facts on the first elements, and on those from a place on
pub front_all : {X : Type 0} (P : X → Type 0) (xs : List X) (n : ℕ) → n ≤ length xs → ((k : ℕ) (d : X) → k < n → P (get_or xs k d)) → AllByRecursion P (take n xs)
front_all P xs zero l f = tt
front_all P [] (suc n) l f = tt
front_all P (x ∷ xs) (suc n) l f = (f 0 x (omega arith), front_all P xs n (omega arith) (λ k d m. f (suc k) d (omega arith)))

pub back_all : {X : Type 0} (P : X → Type 0) (xs : List X) (n : ℕ) → ((k : ℕ) (d : X) → n ≤ k → k < length xs → P (get_or xs k d)) → AllByRecursion P (drop n xs)
back_all P [] zero f = tt
back_all P [] (suc n) f = tt
back_all P (x ∷ xs) zero f = (f 0 x (omega arith) (omega arith), back_all P xs zero (λ k d l m. f (suc k) d (omega arith) (omega arith)))
back_all P (x ∷ xs) (suc n) f = back_all P xs n (λ k d l m. f (suc k) d (omega arith) (omega arith))

pub flat_map-append : {X Y : Type 0} (f : X → List Y) (xs ys : List X) → flat_map f (xs ++ ys) ≡ flat_map f xs ++ flat_map f ys
flat_map-append f [] ys = refl
flat_map-append f (x ∷ xs) ys = ap (λ zs. f x ++ zs) (flat_map-append f xs ys) ∙ sym (append_assoc (f x) (flat_map f xs) (flat_map f ys))

-- two functions that agree on each element give the same
pub flat_map-same : {X Y : Type 0} (f g : X → List Y) (P : X → Type 0) → ((x : X) → P x → f x ≡ g x) → (xs : List X) → AllByRecursion P xs → flat_map f xs ≡ flat_map g xs
flat_map-same f g P s [] a = refl
flat_map-same f g P s (x ∷ xs) a = ap (λ ys. ys ++ flat_map f xs) (s x a.0) ∙ ap (λ ys. g x ++ ys) (flat_map-same f g P s xs a.1)

pub map_drop : {X Y : Type 0} (f : X → Y) (n : ℕ) (xs : List X) → map f (drop n xs) ≡ drop n (map f xs)
map_drop f zero xs = refl
map_drop f (suc n) [] = refl
map_drop f (suc n) (x ∷ xs) = map_drop f n xs

pub map_take : {X Y : Type 0} (f : X → Y) (n : ℕ) (xs : List X) → map f (take n xs) ≡ take n (map f xs)
map_take f zero xs = refl
map_take f (suc n) [] = refl
map_take f (suc n) (x ∷ xs) = ap (λ ys. f x ∷ ys) (map_take f n xs)

-- the first ones and the next ones
pub take_parts : {X : Type 0} (n m : ℕ) (xs : List X) → take n xs ++ take m (drop n xs) ≡ take (n + m) xs
take_parts n m xs =
    ap (λ ys. ys ++ take m (drop n xs)) (sym (take-take n (n + m) xs (omega arith)))
    ∙ (ap (λ ys. take n (take (n + m) xs) ++ ys) (sym (drop-take n m xs))
    ∙ take-append-drop n (take (n + m) xs))

-- what two facts on each element say
pub all_two : {X : Type 0} (P Q R : X → Type 0) → ((x : X) → P x → Q x → R x) → (xs : List X) → AllByRecursion P xs → AllByRecursion Q xs → AllByRecursion R xs
all_two P Q R w [] a b = tt
all_two P Q R w (x ∷ xs) a b = (w x a.0 b.0, all_two P Q R w xs a.1 b.1)
