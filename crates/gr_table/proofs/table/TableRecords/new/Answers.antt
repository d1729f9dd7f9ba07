use Rattle.gr_table.proofs.Held.{held_new}
use Rattle.gr_table.proofs.table.TableRecords.new.Goals as goal

pub invariant_of-result : goal.invariant_of-result
invariant_of-result c = rw (c.in_ok-alive.ensures, c.in_ok-keys.ensures, c.new-columns.ensures.items) (held_new c.args.key _ c.new-tree.ensures)
