-- Rows that are kept while hits are read.
use Rattle.std.specs.Prelude.{◌≡◌, ℕ, true, List, map}
use Rattle.gr_sort.specs.Inside.Place.{IsBounded}
use Rattle.gr_sort.specs.Inside.Rows.{keyed_cmp, keyed_row}
use Rattle.gr_sort.specs.declared.collect.Kept.{Kept}
use Rattle.gr_sort.specs.declared.keys.SortKey.{SortKey}

-- once they were cut, the first so many bound what is still to come
abbrev pub IsKept : List SortKey → ℕ → Kept → Type 0
IsKept keys most kept = kept.is_cut ≡ true → IsBounded (keyed_cmp keys) most (map keyed_row kept.rows.items)
