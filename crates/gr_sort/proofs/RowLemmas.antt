-- Hits with their values go as hits.
use Rattle.std.proofs.Common.{◌≡◌, ℕ, zero, suc, ◌+◌, ◌<◌, ◌≤◌, Bool, true, false, cond, eqb, ltb, ltb-true, List, [], ◌∷◌, ◌++◌, length, map, drop, get_or, take, Option, Ordering, Less, Equal, Greater, is_lt, nat_cmp, length-take, refl, sym, ap, ◌∙◌, arith}
use Rattle.std.proofs.lemmas.List.{drop_more, get_or-map, length-map, map-append, take-map}
use Rattle.std.specs.List.Sorted.{IsStrictlyIncreasing}
use Rattle.std.specs.Ordering.{ordering_then}
use Rattle.gr_expr.specs.Tables.{Records}
use Rattle.gr_expr.specs.Values.{Worth}
use Rattle.gr_print.specs.Block.{Hit}
use Rattle.gr_sort.specs.Inside.Rows.{Keyed, first_worth, keyed, keyed_cmp, keyed_row, other_worths, values_cmp, worth}
use Rattle.gr_sort.specs.Order.{hit_cmp, in_order, item_worth, key_cmp, ordered, turned, worth_cmp}
use Rattle.gr_sort.specs.declared.keys.SortKey.{SortKey}
use Rattle.gr_sort.specs.declared.row.Row.{Row}
use Rattle.gr_sort.specs.declared.value.Value.{Value}
use Rattle.gr_sort.proofs.KeptLemmas.{length-in_order}
use Rattle.gr_sort.proofs.OrderLemmas.{IsUp-sorted, in_order-same, map-in_order}
use Rattle.gr_sort.proofs.TotalLemmas.{hit_weak}

then_then : (o p q : Ordering) → ordering_then (ordering_then o p) q ≡ ordering_then o (ordering_then p q)
then_then Less p q = refl
then_then Equal p q = refl
then_then Greater p q = refl

-- two hits compare as they do with their values
keyed_as_hits : (tables : List Records) (keys : List SortKey) (x y : Hit) → keyed_cmp keys (keyed tables keys x) (keyed tables keys y) ≡ hit_cmp tables keys x y
keyed_as_hits tables [] x y = refl
keyed_as_hits tables (key ∷ keys) x y =
    then_then (key_cmp tables key x y) (values_cmp keys (map (λ key. item_worth tables x key.item) keys) (map (λ key. item_worth tables y key.item) keys)) (nat_cmp x.0.0 y.0.0)
    ∙ ap (ordering_then (key_cmp tables key x y)) (keyed_as_hits tables keys x y)

hits_again : (tables : List Records) (keys : List SortKey) (hits : List Hit) → map (λ (both : Keyed). both.0) (map (keyed tables keys) hits) ≡ hits
hits_again tables keys [] = refl
hits_again tables keys (hit ∷ hits) = ap (λ more. hit ∷ more) (hits_again tables keys hits)

-- hits with their values, in order, are the hits in order
pub keyed-ordered : (tables : List Records) (keys : List SortKey) (hits : List Hit)
    → map (λ (both : Keyed). both.0) (in_order (keyed_cmp keys) (map (keyed tables keys) hits)) ≡ ordered tables keys hits
keyed-ordered tables keys hits =
    ap (map (λ (both : Keyed). both.0)) (sym (map-in_order (keyed_cmp keys) (keyed tables keys) hits))
    ∙ hits_again tables keys (in_order (λ x y. keyed_cmp keys (keyed tables keys x) (keyed tables keys y)) hits)
    ∙ ap (λ (cmp : Hit → Hit → Ordering). in_order cmp hits) (λ i x y. keyed_as_hits tables keys x y i)

rows_again : (rows : List Row) → map (λ (both : Keyed). both.0) (map keyed_row rows) ≡ map (λ (row : Row). row.hit) rows
rows_again [] = refl
rows_again (row ∷ rows) = ap (λ more. row.hit ∷ more) (rows_again rows)

-- the hits of rows
pub rows_hits : (rows : List Row) (all : List Keyed) → map keyed_row rows ≡ all → map (λ (row : Row). row.hit) rows ≡ map (λ (both : Keyed). both.0) all
rows_hits rows all same = sym (rows_again rows) ∙ ap (map (λ (both : Keyed). both.0)) same

-- the first of the values that are left
pub first_worth-drop : (values : List (Option Value)) (n : ℕ) (value : Option Value) → n < length values → value ≡ get_or values n value → first_worth (drop n (map worth values)) ≡ worth value
first_worth-drop [] n value here is = absurd (omega (arith, here))
first_worth-drop (v ∷ vs) zero value here is = ap worth (sym is)
first_worth-drop (v ∷ vs) (suc n) value here is = first_worth-drop vs n value (omega (arith, here)) is

other_worths-drop : (values : List Worth) (n : ℕ) → other_worths (drop n values) ≡ drop (suc n) values
other_worths-drop [] zero = refl
other_worths-drop [] (suc n) = refl
other_worths-drop (v ∷ vs) zero = refl
other_worths-drop (v ∷ vs) (suc n) = other_worths-drop vs n

-- keys of which the first so many do not tell the values apart: the next decides, and otherwise those after it
pub values_cmp-drop : (keys : List SortKey) (left right : List Worth) (n : ℕ) (d : SortKey) → n < length keys
    → values_cmp (drop n keys) (drop n left) (drop n right)
    ≡ ordering_then (turned (get_or keys n d).descending (worth_cmp (first_worth (drop n left)) (first_worth (drop n right)))) (values_cmp (drop (n + 1) keys) (drop (n + 1) left) (drop (n + 1) right))
values_cmp-drop keys left right n d here =
    ap (λ rest. values_cmp rest (drop n left) (drop n right)) (drop_more keys n d here)
    ∙ ap (λ rest. ordering_then by_key (values_cmp (drop (n + 1) keys) rest (other_worths (drop n right)))) (other_worths-next left n)
    ∙ ap (λ rest. ordering_then by_key (values_cmp (drop (n + 1) keys) (drop (n + 1) left) rest)) (other_worths-next right n)
  where
    by_key : Ordering
    by_key = turned (get_or keys n d).descending (worth_cmp (first_worth (drop n left)) (first_worth (drop n right)))

    other_worths-next : (values : List Worth) (n : ℕ) → other_worths (drop n values) ≡ drop (n + 1) values
    other_worths-next values n = let next : suc n ≡ n + 1 = omega arith in other_worths-drop values n ∙ ap (λ k. drop k values) next

-- the first so many rows that are kept have the first so many hits
module _ (tables : List Records) (keys : List SortKey) (hits : List Hit) (rows : List Row) (kept : List Keyed) (n : ℕ)
    (sorted : map keyed_row rows ≡ in_order (keyed_cmp keys) kept) (first : take n (in_order (keyed_cmp keys) kept) ≡ take n (in_order (keyed_cmp keys) (map (keyed tables keys) hits))) where
  pub first_hits : take n (map (λ (row : Row). row.hit) rows) ≡ take n (ordered tables keys hits)
  first_hits =
      ap (take n) (rows_hits rows (in_order (keyed_cmp keys) kept) sorted)
      ∙ take-map (λ (both : Keyed). both.0) n (in_order (keyed_cmp keys) kept)
      ∙ ap (map (λ (both : Keyed). both.0)) first
      ∙ sym (take-map (λ (both : Keyed). both.0) n (in_order (keyed_cmp keys) (map (keyed tables keys) hits)))
      ∙ ap (take n) (keyed-ordered tables keys hits)

  -- and there are so many
  pub first_enough : n ≤ length hits → n ≤ length rows
  first_enough enough =
      let same = ap length first_hits in
      omega (arith, enough, same, length-take n (map (λ (row : Row). row.hit) rows), length-take n (ordered tables keys hits), length-map rows (λ (row : Row). row.hit), length-in_order (hit_cmp tables keys) hits)

-- ids that ascend
not_less : (m n : ℕ) → n < m → is_lt (nat_cmp m n) ≡ false
not_less m n less = go (ltb m n) (eqb m n) refl
  where
    go : (b c : Bool) → ltb m n ≡ b → is_lt (cond b Less (cond c Equal Greater)) ≡ false
    go true c e = absurd (omega (arith, ltb-true m n e, less))
    go false true e = refl
    go false false e = refl

-- where there are no keys, hits stay as they come
pub ordered-none : (tables : List Records) (hits : List Hit) → IsStrictlyIncreasing (map (λ hit. hit.0.0) hits) → ordered tables [] hits ≡ hits
ordered-none tables hits up =
    in_order-same (hit_cmp tables []) (hit_weak tables []) hits
    (IsUp-sorted (hit_cmp tables []) (hit_weak tables []) hits
    (λ k d low h.
    let less = up k (omega (arith, h, length-map hits (λ (hit : Hit). hit.0.0))) in
    let at = get_or-map (λ (hit : Hit). hit.0.0) hits k d 0 (omega (arith, h)) in
    let next = get_or-map (λ (hit : Hit). hit.0.0) hits (k + 1) d 0 h in
    not_less (get_or hits (k + 1) d).0.0 (get_or hits k d).0.0 (omega (arith, less, at, next))))

-- rows with one more
pub keyed-push : (rows more : List Row) (row : Row) → more ≡ rows ++ row ∷ [] → map keyed_row more ≡ map keyed_row rows ++ keyed_row row ∷ []
keyed-push rows more row is = ap (map keyed_row) is ∙ map-append keyed_row rows (row ∷ [])

-- rows that are sorted and cut
pub keyed-cut : (keys : List SortKey) (rows sorted cut : List Row) (all : List Keyed) (n : ℕ) → map keyed_row rows ≡ all → map keyed_row sorted ≡ in_order (keyed_cmp keys) (map keyed_row rows)
    → cut ≡ take n sorted → map keyed_row cut ≡ take n (in_order (keyed_cmp keys) all)
keyed-cut keys rows sorted cut all n are order is =
    ap (map keyed_row) is ∙ sym (take-map keyed_row n sorted) ∙ ap (take n) (order ∙ ap (in_order (keyed_cmp keys)) are)

-- a list without elements
pub no_elements : {X : Type 0} (xs : List X) → length xs ≡ 0 → xs ≡ []
no_elements [] none = refl
no_elements (x ∷ xs) none = absurd (omega (arith, none))
