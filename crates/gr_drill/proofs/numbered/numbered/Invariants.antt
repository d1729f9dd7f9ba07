use Rattle.std.proofs.Common.{◌≡◌, ◌+◌, ◌++◌, length}
use Rattle.std.specs.Vec.Iter.{into_iter_items, into_iter_len}
use Rattle.gr_drill.specs.Block.{numbered_from}
use Rattle.gr_drill.proofs.numbered.numbered.Given as goal

-- the groups so far have their numbers, and those of the others count on
abbrev pub invariant-loop-group : goal.invariant-loop-group
invariant-loop-group l = record {
  can_next : goal.iterator-loop-group.can_next l.group-iterator;
  finite : goal.iterator-loop-group.is_finite l.group-iterator;
  lengths : into_iter_len l.group-iterator ≡ length (into_iter_items l.group-iterator);
  numbered : l.made.items ++ numbered_from (length l.made.items + 1) (into_iter_items l.group-iterator) ≡ numbered_from 1 l.fn.groups.items;
}
