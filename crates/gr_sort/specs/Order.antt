-- The order of hits.
use Rattle.std.specs.Prelude.{ℕ, Bool, if◌then◌else◌, fold, pos, Some, List, [], ◌∷◌}
use Rattle.std.specs.Cmp.Lexicographic.{slice_cmp}
use Rattle.std.specs.Option.{option_cmp}
use Rattle.std.specs.Ordering.{bool_cmp, int_cmp, is_lt, nat_cmp, ordering_reverse, ordering_then}
use Rattle.std.specs.declared.cmp.Ordering.{Ordering}
use Rattle.gr_expr.specs.Tables.{Records}
use Rattle.gr_expr.specs.Values.{Worth, path_worth}
use Rattle.gr_expr.specs.declared.typed.Literal.{Literal}
use Rattle.gr_expr.specs.declared.typed.Literal.TheVariants.{Number, Text, Truth}
use Rattle.gr_print.specs.Block.{Hit}
use Rattle.gr_print.specs.declared.out_column.OutItem.{OutItem}
use Rattle.gr_print.specs.declared.out_column.OutItem.TheVariants.{At, Score}
use Rattle.gr_sort.specs.declared.keys.SortKey.{SortKey}

-- what is read at a hit: the value at a path, or the score
abbrev pub item_worth : List Records → Hit → OutItem → Worth
item_worth tables hit (At path) = path_worth tables hit.0 path
item_worth tables hit Score = Some (Number (pos hit.1))

-- which of the kinds of values is the lower
abbrev pub kind : Literal → ℕ
kind (Truth truth) = 0
kind (Number number) = 1
kind (Text text) = 2

-- false is below true, numbers compare as numbers, and texts by bytes
abbrev pub literal_cmp : Literal → Literal → Ordering
literal_cmp (Truth left) (Truth right) = bool_cmp left right
literal_cmp (Number left) (Number right) = int_cmp left right
literal_cmp (Text left) (Text right) = slice_cmp nat_cmp left right
literal_cmp left right = nat_cmp (kind left) (kind right)

-- no value is below every value
abbrev pub worth_cmp : Worth → Worth → Ordering
worth_cmp = option_cmp literal_cmp

-- the other way round, where it is descending
abbrev pub turned : Bool → Ordering → Ordering
turned descending ordering = if descending then ordering_reverse ordering else ordering

-- two hits by one key
abbrev pub key_cmp : List Records → SortKey → Hit → Hit → Ordering
key_cmp tables key left right = turned key.descending (worth_cmp (item_worth tables left key.item) (item_worth tables right key.item))

-- two hits by all keys in order, and where none tells them apart by ascending id
abbrev pub hit_cmp : List Records → List SortKey → Hit → Hit → Ordering
hit_cmp tables [] left right = nat_cmp left.0.0 right.0.0
hit_cmp tables (key ∷ keys) left right = ordering_then (key_cmp tables key left right) (hit_cmp tables keys left right)

-- one more, put before the first that it is less than
abbrev pub put : {X : Type 0} → (X → X → Ordering) → List X → X → List X
put cmp [] x = x ∷ []
put cmp (y ∷ ys) x = if is_lt (cmp x y) then x ∷ y ∷ ys else y ∷ put cmp ys x

-- all of them, put in order one after the other
abbrev pub in_order : {X : Type 0} → (X → X → Ordering) → List X → List X
in_order cmp = fold (put cmp) []

-- hits in the order of their keys
abbrev pub ordered : List Records → List SortKey → List Hit → List Hit
ordered tables keys = in_order (hit_cmp tables keys)
