-- Look-ups in tables of names, as the code keeps them.
use Rattle.std.proofs.Common.{ℕ, ◌≡◌, ◌+◌, ◌≤◌, Bool, true, false, ◌||◌, cond, List, [], ◌∷◌, map, length, arith, refl, sym, ap, ◌∙◌, Bor}
use mir.Val.{bool_byte}
use Rattle.std.specs.Prelude.{None, Some, Option, filter, find}
use Rattle.std.specs.Option.{option_map}
use Rattle.std.specs.Str.{bytes_eq}
use Rattle.std.specs.List.{list_any}
use Rattle.gr_schema.specs.Flags.{count_of}
use Rattle.gr_schema.specs.Words.{is_one_of, named}

-- what stands beside a name in a table of texts that are lent
pub named_rows : {X : Type 0} (rows : List (Bor (List ℕ) × X)) (name : List ℕ) → option_map (λ row. row.1) (find (λ row. bytes_eq row.0.now name) rows) ≡ named (map (λ row. (row.0.now, row.1)) rows) name
named_rows [] name = refl
named_rows {X = X} (row ∷ rows) name = go (bytes_eq row.0.now name) (named_rows rows name)
  where
    go : (b : Bool) → option_map (λ r. r.1) (find (λ r. bytes_eq r.0.now name) rows) ≡ named (map (λ r. (r.0.now, r.1)) rows) name → option_map (λ (r : Bor (List ℕ) × X). r.1) (cond b (Some row) (find (λ r. bytes_eq r.0.now name) rows)) ≡ option_map (λ (r : List ℕ × X). r.1) (cond b (Some (row.0.now, row.1)) (find (λ r. bytes_eq r.0 name) (map (λ r. (r.0.now, r.1)) rows)))
    go true further = refl
    go false further = further

-- whether a text is one of these words, where the words are lent
pub any_word : (words : List (Bor (List ℕ))) (text : List ℕ) → list_any (λ word. bytes_eq word.now text) words ≡ is_one_of (map (λ word. word.now) words) text
any_word [] text = refl
any_word (word ∷ words) text = ap (λ b. bytes_eq word.now text || b) (any_word words text)

-- a flag more is counted where it is one of the words
pub count_cons : (words : List (List ℕ)) (piece : List ℕ) (pieces : List (List ℕ)) (b : Bool) → b ≡ is_one_of words piece → count_of words (piece ∷ pieces) ≡ bool_byte b + count_of words pieces
count_cons words piece pieces b is = ap (λ t. length (cond t (piece ∷ filter (is_one_of words) pieces) (filter (is_one_of words) pieces))) (sym is) ∙ counted b
  where
    counted : (t : Bool) → length (cond t (piece ∷ filter (is_one_of words) pieces) (filter (is_one_of words) pieces)) ≡ bool_byte t + length (filter (is_one_of words) pieces)
    counted true = omega arith
    counted false = omega arith

-- a truth value counts at most one
pub one_at_most : (b : Bool) → bool_byte b ≤ 1
one_at_most true = omega arith
one_at_most false = omega arith
