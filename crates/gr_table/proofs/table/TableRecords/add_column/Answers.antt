use Rattle.gr_table.proofs.Tables.{held_more, table_more}
use Rattle.gr_table.proofs.table.TableRecords.add_column.Goals as goal

pub invariant_of-self-2 : goal.invariant_of-self-2
invariant_of-self-2 c = rw (c.in_ok-push.ensures.items, c.in_ok-column.ensures) (held_more _ _ _ _ _ _ c.self.invariant c.args.self.now c.self.view_is c.args.shape c.requires)

pub returns : goal.returns
returns c = rw (c.in_ok-push.ensures.items, c.in_ok-column.ensures) (table_more _ _ _ _ _ _ c.self.invariant c.args.self.now c.self.view_is c.args.shape c.requires)
