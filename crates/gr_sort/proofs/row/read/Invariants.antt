use Rattle.std.proofs.Common.{◌≡◌, map, take}
use Rattle.gr_sort.specs.Inside.Rows.{worth}
use Rattle.gr_sort.specs.Order.{item_worth}
use Rattle.gr_sort.proofs.row.read.Given as goal

-- the values of the keys so far
abbrev pub invariant-loop-key : goal.invariant-loop-key
invariant-loop-key g l = map worth l.values.items ≡ map (λ key. item_worth (g.R.Rows.tables l.rows) l.hit key.item) (take l.key-index l.keys)
