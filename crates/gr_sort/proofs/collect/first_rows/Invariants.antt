use Rattle.std.proofs.Common.{◌≡◌, map, take}
use Rattle.gr_sort.specs.Inside.Kept.{IsKept}
use Rattle.gr_sort.specs.Inside.Rows.{keyed, keyed_cmp, keyed_row}
use Rattle.gr_sort.specs.Order.{in_order}
use Rattle.gr_sort.proofs.collect.first_rows.Given as goal

-- the first rows of those that are kept are the first of all hits so far
abbrev pub invariant-loop-hit : goal.invariant-loop-hit
invariant-loop-hit g l = record {
  first :
      take l.most (in_order (keyed_cmp l.keys) (map keyed_row l.kept.rows.items))
      ≡ take l.most (in_order (keyed_cmp l.keys) (map (keyed (g.R.Rows.tables l.rows) l.keys) (take l.hit-index l.hits)));
  kept : IsKept l.keys l.most l.kept;
}
