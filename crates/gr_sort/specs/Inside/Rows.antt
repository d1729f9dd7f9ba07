-- Hits with the values of their keys beside them.
use Rattle.std.specs.Prelude.{Option, None, List, [], ◌∷◌, map}
use Rattle.std.specs.Option.{option_map}
use Rattle.std.specs.Ordering.{nat_cmp, ordering_then}
use Rattle.std.specs.declared.cmp.Ordering.{Ordering}
use Rattle.std.specs.declared.cmp.Ordering.TheVariants.{Equal}
use Rattle.gr_expr.specs.Tables.{Records}
use Rattle.gr_expr.specs.Values.{Worth}
use Rattle.gr_expr.specs.declared.typed.Literal.{Literal}
use Rattle.gr_print.specs.Block.{Hit}
use Rattle.gr_sort.specs.Order.{item_worth, turned, worth_cmp}
use Rattle.gr_sort.specs.declared.keys.SortKey.{SortKey}
use Rattle.gr_sort.specs.declared.row.Row.{Row}
use Rattle.gr_sort.specs.declared.value.Value.{Value}
use Rattle.gr_sort.specs.declared.value.Value.TheVariants.{Number, Text, Truth}

-- a value that is lent
abbrev pub literal : Value → Literal
literal (Truth truth) = Literal.Truth truth
literal (Number number) = Literal.Number number
literal (Text text) = Literal.Text text.now

-- what a value that is lent is worth, or no value
abbrev pub worth : Option Value → Worth
worth = option_map literal

-- a hit and what its keys read
abbrev pub Keyed : Type 0
Keyed = Hit × List Worth

-- a row
abbrev pub keyed_row : Row → Keyed
keyed_row row = (row.hit, map worth row.values.items)

-- a hit with what its keys read beside it
abbrev pub keyed : List Records → List SortKey → Hit → Keyed
keyed tables keys hit = (hit, map (λ key. item_worth tables hit key.item) keys)

-- the first of the values that are left, and no value where none is
abbrev pub first_worth : List Worth → Worth
first_worth [] = None
first_worth (value ∷ values) = value

-- the others
abbrev pub other_worths : List Worth → List Worth
other_worths [] = []
other_worths (value ∷ values) = values

-- values by keys in order
abbrev pub values_cmp : List SortKey → List Worth → List Worth → Ordering
values_cmp [] left right = Equal
values_cmp (key ∷ keys) left right =
    ordering_then (turned key.descending (worth_cmp (first_worth left) (first_worth right))) (values_cmp keys (other_worths left) (other_worths right))

-- the same of hits with their values, and where no key tells them apart by ascending id
abbrev pub keyed_cmp : List SortKey → Keyed → Keyed → Ordering
keyed_cmp keys left right = ordering_then (values_cmp keys left.1 right.1) (nat_cmp left.0.0.0 right.0.0.0)
