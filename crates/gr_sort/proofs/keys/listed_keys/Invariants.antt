use Rattle.std.proofs.Common.{◌≡◌, [], drop, length, map}
use Rattle.std.specs.List.{slice_split}
use Rattle.gr_print.specs.Columns.{is_comma, listed, trimmed}
use Rattle.gr_sort.specs.Inside.Named.{AreSortable}
use Rattle.gr_sort.proofs.KeyLemmas.{given, total}
use Rattle.gr_sort.proofs.keys.listed_keys.Given as goal

-- the keys so far and those of the texts that are left are those of all
abbrev pub invariant-loop-item : goal.invariant-loop-item
invariant-loop-item l = record {
  can_next : goal.iterator-loop-item.can_next l.item-iterator;
  finite : goal.iterator-loop-item.is_finite l.item-iterator;
  taken :
      total l.schema l.table [] (listed l.text)
      ≡ total l.schema l.table l.made (given (map trimmed (drop (length l.yielded) (slice_split is_comma l.text))));
  fit : AreSortable l.schema l.made;
}
