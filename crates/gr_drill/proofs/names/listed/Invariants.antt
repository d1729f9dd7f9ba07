use Rattle.std.proofs.Common.{◌≡◌, ◌++◌, drop, length, map}
use Rattle.std.specs.List.{slice_split}
use Rattle.gr_print.specs.Columns.{is_comma, listed, trimmed}
use Rattle.gr_drill.proofs.ListedLemmas.{given}
use Rattle.gr_drill.proofs.names.listed.Given as goal

-- the names so far and those of the pieces that are left are all names
abbrev pub invariant-loop-item : goal.invariant-loop-item
invariant-loop-item l = record {
  can_next : goal.iterator-loop-item.can_next l.item-iterator;
  finite : goal.iterator-loop-item.is_finite l.item-iterator;
  taken : map (λ name. name.now) l.names.items ++ given (map trimmed (drop (length l.yielded) (slice_split is_comma l.text))) ≡ listed l.text;
}
