-- The orders are total.
use Rattle.std.proofs.Common.{◌≡◌, ℕ, Bool, true, false, ℤ, pos, List, [], ◌∷◌, Ordering, Less, Equal, Greater, int_cmp, is_lt, nat_cmp, refl, sym, subst}
use Rattle.std.specs.Cmp.{IsStrictWeakOrder, IsTotalOrder, back_total, bool_cmp_total, int_cmp_total, nat_cmp_total, on_total, then_total}
use Rattle.std.specs.Cmp.Lexicographic.{nat_list_cmp_total, options_total, slice_cmp}
use Rattle.std.specs.Ordering.{bool_cmp, on, ordering_then, then_cmp}
use Rattle.std.proofs.lemmas.List.Sorted.{ranks_by}
use Rattle.gr_expr.specs.Tables.{Records}
use Rattle.gr_expr.specs.declared.typed.Literal.{Literal}
use Rattle.gr_expr.specs.declared.typed.Literal.TheVariants.{Number, Text, Truth}
use Rattle.gr_print.specs.Block.{Hit}
use Rattle.gr_sort.specs.Inside.Rows.{Keyed, first_worth, keyed_cmp, keyed_row, other_worths, values_cmp}
use Rattle.gr_sort.specs.Order.{hit_cmp, item_worth, kind, literal_cmp, turned, worth_cmp}
use Rattle.gr_sort.specs.declared.keys.SortKey.{SortKey}

-- what a value holds of each kind
abbrev truth_of : Literal → Bool
truth_of (Truth truth) = truth
truth_of (Number number) = false
truth_of (Text text) = false

abbrev number_of : Literal → ℤ
number_of (Truth truth) = pos 0
number_of (Number number) = number
number_of (Text text) = pos 0

abbrev text_of : Literal → List ℕ
text_of (Truth truth) = []
text_of (Number number) = []
text_of (Text text) = text

-- by the kind, and then by what it holds of each kind
abbrev parts_cmp : Literal → Literal → Ordering
parts_cmp = then_cmp (on kind nat_cmp) (then_cmp (on truth_of bool_cmp) (then_cmp (on number_of int_cmp) (on text_of (slice_cmp nat_cmp))))

then_equal : (o : Ordering) → o ≡ ordering_then o Equal
then_equal Less = refl
then_equal Equal = refl
then_equal Greater = refl

as_parts : (x y : Literal) → parts_cmp x y ≡ literal_cmp x y
as_parts (Truth a) (Truth b) = sym (then_equal (bool_cmp a b))
as_parts (Truth a) (Number b) = refl
as_parts (Truth a) (Text b) = refl
as_parts (Number a) (Truth b) = refl
as_parts (Number a) (Number b) = sym (then_equal (int_cmp a b))
as_parts (Number a) (Text b) = refl
as_parts (Text a) (Truth b) = refl
as_parts (Text a) (Number b) = refl
as_parts (Text a) (Text b) = refl

literal_total : IsTotalOrder literal_cmp
literal_total =
    subst IsTotalOrder (λ i x y. as_parts x y i)
    (then_total (on_total kind nat_cmp_total) (then_total (on_total truth_of bool_cmp_total) (then_total (on_total number_of int_cmp_total) (on_total text_of nat_list_cmp_total))))

pub worth_total : IsTotalOrder worth_cmp
worth_total = options_total literal_total

-- an order that is turned round is one
pub turned_total : {K : Type 0} (descending : Bool) {R : K → K → Ordering} → IsTotalOrder R → IsTotalOrder (λ x y. turned descending (R x y))
turned_total false o = o
turned_total true {R} o = subst IsTotalOrder (λ i x y. o.antisymm y x i) (back_total o)

level_total : {K : Type 0} → IsTotalOrder (λ (x y : K). Equal)
level_total = record { antisymm = λ x y. refl; trans = λ x y z h k. h; congr = λ x y z h. refl }

-- of hits
pub hit_total : (tables : List Records) (keys : List SortKey) → IsTotalOrder (hit_cmp tables keys)
hit_total tables [] = on_total (λ (hit : Hit). hit.0.0) nat_cmp_total
hit_total tables (key ∷ keys) = then_total (turned_total key.descending (on_total (λ (hit : Hit). item_worth tables hit key.item) worth_total)) (hit_total tables keys)

-- of values
values_total : (keys : List SortKey) → IsTotalOrder (values_cmp keys)
values_total [] = level_total
values_total (key ∷ keys) = then_total (turned_total key.descending (on_total first_worth worth_total)) (on_total other_worths (values_total keys))

-- of hits with their values
pub keyed_total : (keys : List SortKey) → IsTotalOrder (keyed_cmp keys)
keyed_total keys = then_total (on_total (λ (keyed : Keyed). keyed.1) (values_total keys)) (on_total (λ (keyed : Keyed). keyed.0.0.0) nat_cmp_total)

-- so that a sort may go by it
pub hit_weak : (tables : List Records) (keys : List SortKey) → IsStrictWeakOrder (λ x y. is_lt (hit_cmp tables keys x y))
hit_weak tables keys = ranks_by (hit_total tables keys) (λ (hit : Hit). hit)

pub keyed_weak : (keys : List SortKey) → IsStrictWeakOrder (λ x y. is_lt (keyed_cmp keys x y))
keyed_weak keys = ranks_by (keyed_total keys) (λ (keyed : Keyed). keyed)

pub row_weak : (keys : List SortKey) → IsStrictWeakOrder (λ x y. is_lt (keyed_cmp keys (keyed_row x) (keyed_row y)))
row_weak keys = ranks_by (keyed_total keys) keyed_row
