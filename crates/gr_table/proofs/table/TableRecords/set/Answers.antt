use Rattle.std.proofs.Common.{sym, ◌∙◌}
use Rattle.gr_table.proofs.Outcomes.{either, on_ok}
use Rattle.gr_table.proofs.Tables.{held_cell, held_same_cell, table_cell}
use Rattle.gr_table.proofs.table.TableRecords.set.Goals as goal

pub invariant_of-self : goal.invariant_of-self
invariant_of-self c =
    either c.set_cell.result c.set_cell.ensures.ok c.set_cell.ensures.err
    (held_cell _ _ _ _ _ _ c.self.invariant c.args.self.now c.self.view_is c.args.column c.args.id c.args.cell c.requires.alive c.requires.fits c.index_mut.result.now c.in-Some.held c.set_cell.new.self (sym c.in-Some.is ∙ c.index_mut.ensures.value))
    (held_same_cell _ _ _ _ _ _ c.self.invariant c.args.self.now c.self.view_is c.args.column c.args.id c.args.cell c.requires.alive c.requires.fits c.index_mut.result.now c.in-Some.held c.set_cell.new.self (sym c.in-Some.is ∙ c.index_mut.ensures.value))

pub returns : goal.returns
returns c =
    on_ok c.set_cell.result
    (table_cell _ _ _ _ _ _ c.self.invariant c.args.self.now c.self.view_is c.args.column c.args.id c.args.cell c.requires.alive c.requires.fits c.index_mut.result.now c.in-Some.held c.set_cell.new.self (sym c.in-Some.is ∙ c.index_mut.ensures.value))
    c.set_cell.ensures.ok
