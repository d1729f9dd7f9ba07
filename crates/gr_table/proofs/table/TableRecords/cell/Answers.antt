use Rattle.std.proofs.Common.{Some, None, ap, sym, ◌∙◌}
use Rattle.std.specs.Prelude.{slice_get}
use Rattle.std.specs.Option.{option_and_then, option_flatten, option_map}
use Rattle.gr_expr.specs.Tables.{record_in}
use Rattle.gr_values.specs.View.{shown}
use Rattle.gr_table.proofs.Cells.{cell_dead, cell_seen}
use Rattle.gr_table.proofs.table.TableRecords.cell.Goals as goal

pub returns-then-not-get : goal.returns-then-not-get
returns-then-not-get c =
    sym (cell_dead _ _ _ _ _ _ c.self.invariant c.args.column c.args.id.0 (sym c.get.ensures ∙ c.if-not-get.true))
    ∙ ap (λ table. option_and_then (λ found. option_flatten (slice_get found.cells c.args.column.0)) (record_in table.records c.args.id.0)) c.self.view_is

pub returns-in_err-held : goal.returns-in_err-held
returns-in_err-held c =
    ap (option_map shown) c.from_residual.ensures
    ∙ sym (cell_seen _ _ _ _ _ _ c.self.invariant c.args.column None (c.in_err-held.ensures ∙ ap (λ items. option_flatten (slice_get items c.args.column.0)) c.as_slice.ensures.value) c.args.id.0 (sym c.get.ensures ∙ c.if-not-get.false))
    ∙ ap (λ table. option_and_then (λ found. option_flatten (slice_get found.cells c.args.column.0)) (record_in table.records c.args.id.0)) c.self.view_is

pub returns : goal.returns
returns c =
    ap Some c.get-2.ensures.exact
    ∙ sym (cell_seen _ _ _ _ _ _ c.self.invariant c.args.column (Some c.in_ok-held.held.now) (c.in_ok-held.ensures ∙ ap (λ items. option_flatten (slice_get items c.args.column.0)) c.as_slice.ensures.value) c.args.id.0 (sym c.get.ensures ∙ c.if-not-get.false))
    ∙ ap (λ table. option_and_then (λ found. option_flatten (slice_get found.cells c.args.column.0)) (record_in table.records c.args.id.0)) c.self.view_is
