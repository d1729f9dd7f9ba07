-- Tokens that are written one after the other.
use Rattle.std.proofs.Common.{◌≡◌, ℕ, ◌+◌, ◌<◌, ◌≤◌, List, [], ◌∷◌, ◌++◌, length, map, take, get_or, Option, Some, None, append_assoc, refl, ap, sym, subst, ◌∙◌}
use Rattle.std.proofs.lemmas.List.{flat_map_more, map-append, take_all, take_more}
use Rattle.std.specs.List.{cons_option, filter_map, flat_map}
use Rattle.std.specs.Option.{option_to_list}
use Rattle.json.specs.Token.{Token, begin_array, end_array}
use Rattle.json.specs.Written.{Written}
use Rattle.gr_values.specs.Tokens.{Appends, array_tokens}
use Rattle.gr_values.proofs.Written.{Appends-more}

-- one more value after a beginning
pub values-more : {X : Type 0} (before : List Token) (tokens : X → List Token) (xs : List X) (i : ℕ) (d x : X) {old mid new : Written} → i < length xs → x ≡ get_or xs i d
    → Appends old mid (before ++ flat_map tokens (take i xs)) → Appends mid new (tokens x) → Appends old new (before ++ flat_map tokens (take (i + 1) xs))
values-more before tokens xs i d x {old} {mid} {new} here is so_far one =
    let taken : take (i + 1) xs ≡ take i xs ++ x ∷ [] = take_more xs i d here ∙ ap (λ y. take i xs ++ y ∷ []) (sym is) in
    let same : (before ++ flat_map tokens (take i xs)) ++ tokens x ≡ before ++ flat_map tokens (take (i + 1) xs) =
    flat_map_more tokens before (take i xs) x ∙ ap (λ ys. before ++ flat_map tokens ys) (sym taken) in
    subst (Appends old new) same (Appends-more so_far one)

-- and the closing bracket after all
pub values-end : {X : Type 0} (before : List Token) (tokens : X → List Token) (xs : List X) (i : ℕ) {old mid new : Written} → length xs ≤ i
    → Appends old mid (before ++ flat_map tokens (take i xs)) → Appends mid new (end_array ∷ []) → Appends old new (before ++ (flat_map tokens xs ++ end_array ∷ []))
values-end before tokens xs i {old} {mid} {new} end so_far one =
    let same : (before ++ flat_map tokens (take i xs)) ++ end_array ∷ [] ≡ before ++ (flat_map tokens xs ++ end_array ∷ []) =
    append_assoc before (flat_map tokens (take i xs)) (end_array ∷ []) ∙ ap (λ ys. before ++ (flat_map tokens ys ++ end_array ∷ [])) (take_all i xs end) in
    subst (Appends old new) same (Appends-more so_far one)

filter_map-more : {X Y : Type 0} (read : X → Option Y) (xs : List X) (x : X) → filter_map read (xs ++ x ∷ []) ≡ filter_map read xs ++ option_to_list (read x)
filter_map-more {X} {Y} read [] x = go (read x)
  where
    go : (o : Option Y) → cons_option o [] ≡ option_to_list o
    go None = refl
    go (Some y) = refl
filter_map-more {X} {Y} read (z ∷ xs) x = go (read z) (filter_map-more read xs x)
  where
    go : (o : Option Y) → filter_map read (xs ++ x ∷ []) ≡ filter_map read xs ++ option_to_list (read x)
        → cons_option o (filter_map read (xs ++ x ∷ [])) ≡ cons_option o (filter_map read xs) ++ option_to_list (read x)
    go None more = more
    go (Some y) more = ap (λ ys. y ∷ ys) more

-- one more element that may be left out
pub living-more : {X Y : Type 0} (token : Y → Token) (read : X → Option Y) (xs : List X) (i : ℕ) (d : X) {old mid new : Written} → i < length xs
    → Appends old mid (begin_array ∷ map token (filter_map read (take i xs))) → Appends mid new (map token (option_to_list (read (get_or xs i d))))
    → Appends old new (begin_array ∷ map token (filter_map read (take (i + 1) xs)))
living-more token read xs i d {old} {mid} {new} here so_far one =
    let x = get_or xs i d in
    let same : map token (filter_map read (take i xs)) ++ map token (option_to_list (read x)) ≡ map token (filter_map read (take (i + 1) xs)) =
    sym (map-append token (filter_map read (take i xs)) (option_to_list (read x)))
    ∙ ap (map token) (sym (filter_map-more read (take i xs) x) ∙ ap (filter_map read) (sym (take_more xs i d here))) in
    subst (Appends old new) (ap (λ ts. begin_array ∷ ts) same) (Appends-more so_far one)

pub living-end : {X Y : Type 0} (token : Y → Token) (read : X → Option Y) (xs : List X) (i : ℕ) {old mid new : Written} → length xs ≤ i
    → Appends old mid (begin_array ∷ map token (filter_map read (take i xs))) → Appends mid new (end_array ∷ []) → Appends old new (array_tokens (map token (filter_map read xs)))
living-end token read xs i {old} {mid} {new} end so_far one =
    subst (Appends old new) (ap (λ ys. begin_array ∷ (map token (filter_map read ys) ++ end_array ∷ [])) (take_all i xs end)) (Appends-more so_far one)
