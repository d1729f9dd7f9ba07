-- What is written for each table, one table after the other.
use Rattle.std.proofs.Common.{◌≡◌, ℕ, zero, suc, ◌+◌, ◌<◌, List, [], ◌∷◌, ◌++◌, length, take, Some, None, slice_get, append_assoc, arith, ap, sym, ◌∙◌}
use Rattle.std.proofs.lemmas.List.{append-nil, length-take-le, take_more}
use Rattle.std.proofs.lemmas.Option.{get_or_from_slice_get, slice_get_within}
use Rattle.gr_base.specs.declared.numbers.TableNo.{TableNo}
use Rattle.gr_dump.specs.Dump.{each_from}
use Rattle.gr_schema.specs.Schema.{table_no}
use Rattle.gr_schema.specs.declared.definition.TableDef.{TableDef}

-- tables and more tables after them
each_from-append : (text : TableNo → TableDef → List ℕ) (n m : ℕ) (xs ys : List TableDef) → m ≡ n + length xs → each_from text n (xs ++ ys) ≡ each_from text n xs ++ each_from text m ys
each_from-append text n m [] ys at = let same : n ≡ m = omega arith in ap (λ k. each_from text k ys) same
each_from-append text n m (x ∷ xs) ys at =
    ap (λ rest. text (table_no n) x ++ rest) (each_from-append text (n + 1) m xs ys (omega arith))
    ∙ sym (append_assoc (text (table_no n) x) (each_from text (n + 1) xs) (each_from text m ys))

-- one table more
pub each_from-more : (text : TableNo → TableDef → List ℕ) (tables : List TableDef) (n : ℕ) (home : TableDef) (before held made : List ℕ) → slice_get tables n ≡ Some home
    → held ≡ before ++ each_from text 0 (take n tables) → made ≡ held ++ text (table_no n) home → made ≡ before ++ each_from text 0 (take (n + 1) tables)
each_from-more text tables n home before held made there so_far one =
    let here : n < length tables = slice_get_within tables n home there in
    let taken : take (n + 1) tables ≡ take n tables ++ home ∷ [] =
    take_more tables n home here ∙ ap (λ x. take n tables ++ x ∷ []) (get_or_from_slice_get tables n home home there) in
    let long : length (take n tables) ≡ n = length-take-le n tables (omega arith) in
    let more : each_from text 0 (take (n + 1) tables) ≡ each_from text 0 (take n tables) ++ text (table_no n) home =
    ap (each_from text 0) taken
    ∙ each_from-append text 0 n (take n tables) (home ∷ []) (omega arith)
    ∙ ap (λ last. each_from text 0 (take n tables) ++ last) (append-nil (text (table_no n) home)) in
    one ∙ ap (λ t. t ++ text (table_no n) home) so_far
    ∙ append_assoc before (each_from text 0 (take n tables)) (text (table_no n) home)
    ∙ ap (λ t. before ++ t) (sym more)

-- within the tables one is there
pub none-within : (tables : List TableDef) (n : ℕ) → n < length tables → slice_get tables n ≡ None → ⊥
none-within [] n here none = omega arith
none-within (x ∷ xs) zero here none = cc
none-within (x ∷ xs) (suc n) here none = none-within xs n (omega arith) none
