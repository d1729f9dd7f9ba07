-- Scores and numbers joined one by one, and values looked for among others.
use Rattle.std.proofs.Common.{◌≡◌, ℕ, zero, suc, ◌+◌, ◌<◌, Bool, true, false, List, [], ◌∷◌, ◌++◌, Option, Some, None, length, get_or, map, take, refl, sym, ap, ◌∙◌, arith}
use Rattle.std.specs.Prelude.{◌&&◌, ◌||◌, is_some}
use Rattle.std.specs.List.{list_all, list_any}
use Rattle.std.specs.Option.{option_map}
use Rattle.std.proofs.lemmas.List.{map_more}
use Rattle.gr_ast.specs.declared.operators.Arith.{Arith}
use Rattle.gr_ast.specs.declared.operators.Join.{Join}
use Rattle.gr_base.specs.declared.numbers.RecordId.{RecordId}
use Rattle.gr_expr.specs.declared.typed.CombinedTerm.{CombinedTerm, fold_out-CombinedTerm, out-CombinedTerm}
use Rattle.gr_expr.specs.declared.typed.JoinedExpr.{JoinedExpr, fold_out-JoinedExpr, out-JoinedExpr}
use Rattle.gr_expr.specs.Score.{chain_score, combined_of, combined_step, joined, joined_of, joined_step, score_of, score_step, worth_of, worth_step}
use Rattle.gr_expr.specs.Tables.{Records}
use Rattle.gr_expr.specs.Values.{Worth, calc_worth, combined}

-- one score more
chain_push : (first : ℕ) (xs : List (Join × ℕ)) (x : Join × ℕ) → chain_score first (xs ++ x ∷ []) ≡ joined x.0 (chain_score first xs) x.1
chain_push first [] x = refl
chain_push first (next ∷ xs) x = chain_push (joined next.0 first next.1) xs x

pub chain_more : {X : Type 0} (f : X → Join × ℕ) (first : ℕ) (xs : List X) (i : ℕ) (d : X) → i < length xs → chain_score first (map f (take (i + 1) xs)) ≡ joined (f (get_or xs i d)).0 (chain_score first (map f (take i xs))) (f (get_or xs i d)).1
chain_more f first xs i d inside = ap (chain_score first) (map_more f xs i d inside) ∙ chain_push first (map f (take i xs)) (f (get_or xs i d))

-- one number more
calc_push : (first : Worth) (xs : List (Arith × Worth)) (x : Arith × Worth) → calc_worth first (xs ++ x ∷ []) ≡ combined x.0 (calc_worth first xs) x.1
calc_push first [] x = refl
calc_push first (next ∷ xs) x = calc_push (combined next.0 first next.1) xs x

pub calc_more : {X : Type 0} (f : X → Arith × Worth) (first : Worth) (xs : List X) (i : ℕ) (d : X) → i < length xs → calc_worth first (map f (take (i + 1) xs)) ≡ combined (f (get_or xs i d)).0 (calc_worth first (map f (take i xs))) (f (get_or xs i d)).1
calc_more f first xs i d inside = ap (calc_worth first) (map_more f xs i d inside) ∙ calc_push first (map f (take i xs)) (f (get_or xs i d))

-- a number behind its sign, opened
pub combined_of_is : (tables : List Records) (id : RecordId) (d : CombinedTerm) → combined_of tables id d ≡ ((out-CombinedTerm d).arith, worth_of tables id (out-CombinedTerm d).of)
combined_of_is tables id d = fold_out-CombinedTerm ℕ Worth (Arith × Worth) (Join × ℕ) (score_step tables id) (worth_step tables id) combined_step joined_step d

-- a condition behind what joins it, opened
pub joined_of_is : (tables : List Records) (id : RecordId) (d : JoinedExpr) → joined_of tables id d ≡ ((out-JoinedExpr d).join, score_of tables id (out-JoinedExpr d).of)
joined_of_is tables id d = fold_out-JoinedExpr ℕ Worth (Arith × Worth) (Join × ℕ) (score_step tables id) (worth_step tables id) combined_step joined_step d

-- the other values, one by one
or_false : (b : Bool) → (b || false) ≡ b
or_false true = refl
or_false false = refl

and_true : (b : Bool) → (b && true) ≡ b
and_true true = refl
and_true false = refl

and_false : (b : Bool) → (b && false) ≡ false
and_false true = refl
and_false false = refl

or_push : (b l r s : Bool) → s ≡ (l || r) → (b || s) ≡ ((b || l) || r)
or_push true l r s h = refl
or_push false l r s h = h

and_push : (b l r s : Bool) → s ≡ (l && r) → (b && s) ≡ ((b && l) && r)
and_push true l r s h = h
and_push false l r s h = refl

any_push : {X : Type 0} (p : X → Bool) (xs : List X) (x : X) → list_any p (xs ++ x ∷ []) ≡ (list_any p xs || p x)
any_push p [] x = or_false (p x)
any_push p (y ∷ xs) x = or_push (p y) (list_any p xs) (p x) (list_any p (xs ++ x ∷ [])) (any_push p xs x)

all_push : {X : Type 0} (p : X → Bool) (xs : List X) (x : X) → list_all p (xs ++ x ∷ []) ≡ (list_all p xs && p x)
all_push p [] x = and_true (p x)
all_push p (y ∷ xs) x = and_push (p y) (list_all p xs) (p x) (list_all p (xs ++ x ∷ [])) (all_push p xs x)

pub any_more : {X Y : Type 0} (f : X → Y) (p : Y → Bool) (xs : List X) (i : ℕ) (d : X) → i < length xs → list_any p (map f (take (i + 1) xs)) ≡ (list_any p (map f (take i xs)) || p (f (get_or xs i d)))
any_more f p xs i d inside = ap (list_any p) (map_more f xs i d inside) ∙ any_push p (map f (take i xs)) (f (get_or xs i d))

pub all_more : {X Y : Type 0} (f : X → Y) (p : Y → Bool) (xs : List X) (i : ℕ) (d : X) → i < length xs → list_all p (map f (take (i + 1) xs)) ≡ (list_all p (map f (take i xs)) && p (f (get_or xs i d)))
all_more f p xs i d inside = ap (list_all p) (map_more f xs i d inside) ∙ all_push p (map f (take i xs)) (f (get_or xs i d))

-- one that does not pass is enough
pub all_stop : {X Y : Type 0} (f : X → Y) (p : Y → Bool) (xs : List X) (i : ℕ) (d : X) → i < length xs → p (f (get_or xs i d)) ≡ false → list_all p (map f xs) ≡ false
all_stop f p [] i d inside h = absurd (omega (arith, inside))
all_stop f p (x ∷ xs) zero d inside h = ap (λ b. b && list_all p (map f xs)) h
all_stop f p (x ∷ xs) (suc i) d inside h = ap (λ b. p (f x) && b) (all_stop f p xs i d (omega (arith, inside)) h) ∙ and_false (p (f x))

-- a value that is lent is none where it is none
pub is_some-map : {X Y : Type 0} (f : X → Y) (o : Option X) → is_some (option_map f o) ≡ is_some o
is_some-map f None = refl
is_some-map f (Some x) = refl

-- where one is no value, it is not found
pub among_none : (b a l : Bool) → a ≡ false → false ≡ ((b && a) && l)
among_none true a l h = ap (λ x. x && l) (sym h)
among_none false a l h = refl
