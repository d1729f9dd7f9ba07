use Rattle.std.proofs.Common.{◌≡◌, map, take}
use Rattle.gr_sort.proofs.sorting.hits_of.Given as goal

-- the hits of the rows so far
abbrev pub invariant-loop-row : goal.invariant-loop-row
invariant-loop-row l = l.hits.items ≡ map (λ row. row.hit) (take l.row-index l.row-items)
