-- The names that a text lists, taken one after the other.
use Rattle.std.proofs.Common.{◌≡◌, ℕ, ◌+◌, ◌<◌, ◌≤◌, ◌==◌, not, Bool, true, false, cond, List, [], ◌∷◌, ◌++◌, length, map, filter, drop, get_or, append_assoc, append-nil, refl, sym, ap, ◌∙◌}
use Rattle.std.proofs.lemmas.List.{drop_all, drop_more}
use Rattle.gr_print.specs.Columns.{trimmed}

-- the names of pieces of a text, of which empty ones are dropped
abbrev pub given : List (List ℕ) → List (List ℕ)
given names = filter (λ name. not (length name == 0)) names

filter-first : {X : Type 0} (keep : X → Bool) (x : X) (xs : List X) → filter keep (x ∷ xs) ≡ filter keep (x ∷ []) ++ filter keep xs
filter-first keep x xs = elim (keep x) as (λ b. cond b (x ∷ filter keep xs) (filter keep xs) ≡ cond b (x ∷ []) [] ++ filter keep xs) [ true ↦ refl | false ↦ refl ]

-- one piece more is taken
pub names-more : (all before after : List (List ℕ)) (parts : List (List ℕ)) (n : ℕ) (part : List ℕ) → n < length parts → part ≡ get_or parts n part
    → before ++ given (map trimmed (drop n parts)) ≡ all → after ≡ before ++ given (trimmed part ∷ []) → after ++ given (map trimmed (drop (n + 1) parts)) ≡ all
names-more all before after parts n part here is so_far taken =
    ap (λ names. names ++ given (map trimmed (drop (n + 1) parts))) taken
    ∙ append_assoc before (given (trimmed part ∷ [])) (given (map trimmed (drop (n + 1) parts)))
    ∙ ap (λ names. before ++ names)
    (sym (ap (λ xs. given (map trimmed xs)) (drop_more parts n part here ∙ ap (λ x. x ∷ drop (n + 1) parts) (sym is)) ∙ filter-first (λ name. not (length name == 0)) (trimmed part) (map trimmed (drop (n + 1) parts))))
    ∙ so_far

-- no piece is left
pub names-all : (all before : List (List ℕ)) (parts : List (List ℕ)) (n : ℕ) → length parts ≤ n → before ++ given (map trimmed (drop n parts)) ≡ all → before ≡ all
names-all all before parts n end so_far = sym (append-nil before) ∙ ap (λ xs. before ++ given (map trimmed xs)) (sym (drop_all n parts end)) ∙ so_far
