use Rattle.std.proofs.Common.{◌≡◌, ◌++◌, filter}
use Rattle.std.specs.Vec.Iter.{into_iter_items}
use Rattle.gr_dump.specs.Inside.Begun.{is_kept}
use Rattle.gr_dump.proofs.shown.kept.Given as goal

-- the columns so far and those that are kept of what is left are those of all
abbrev pub invariant-loop-column : goal.invariant-loop-column
invariant-loop-column l = record {
  can_next : goal.iterator-loop-column.can_next l.column-iterator;
  finite : goal.iterator-loop-column.is_finite l.column-iterator;
  taken : l.made.items ++ filter (is_kept l.references) (into_iter_items l.column-iterator) ≡ filter (is_kept l.references) l.fn.columns.items;
}
