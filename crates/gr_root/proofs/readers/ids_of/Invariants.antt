use Rattle.std.proofs.Common.{◌≡◌, map, take}
use Rattle.gr_expr.specs.Tables.{record_id}
use Rattle.gr_root.proofs.readers.ids_of.Given as goal

-- the ids of those so far
abbrev pub invariant-loop-number : goal.invariant-loop-number
invariant-loop-number l = l.ids.items ≡ map record_id (take l.number-index l.numbers)
