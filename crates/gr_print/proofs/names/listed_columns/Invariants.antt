use Rattle.std.proofs.Common.{◌≡◌, ◌==◌, [], drop, filter, length, map, not}
use Rattle.std.specs.List.{slice_split}
use Rattle.gr_print.specs.Columns.{is_comma, listed, trimmed}
use Rattle.gr_print.specs.Inside.Named.{ArePrintable}
use Rattle.gr_print.proofs.NamedLemmas.{total}
use Rattle.gr_print.proofs.names.listed_columns.Given as goal

-- the columns so far and those of the names that are left are those of all
abbrev pub invariant-loop-name : goal.invariant-loop-name
invariant-loop-name l = record {
  can_next : goal.iterator-loop-name.can_next l.name-iterator;
  finite : goal.iterator-loop-name.is_finite l.name-iterator;
  taken :
      total l.schema l.table [] (listed l.text)
      ≡ total l.schema l.table l.made (filter (λ item. not (length item == 0)) (map trimmed (drop (length l.yielded) (slice_split is_comma l.text))));
  fit : ArePrintable l.schema l.made;
}
