use Rattle.std.proofs.Common.{rules, ap, subst, ◌∙◌}
use Rattle.std.specs.Prelude.{slice_get, bit_and}
use Rattle.std.specs.Option.{option_flatten}
use Rattle.gr_table.specs.Masks.{IsRecordMask}
use Rattle.gr_table.specs.Table.{TableOf}
use Rattle.gr_table.proofs.Cells.{mask_seen}
use Rattle.gr_table.proofs.table.TableRecords.mask.Goals as goal

pub returns-clause-exact : goal.returns-clause-exact
returns-clause-exact c =
    subst (λ (table : TableOf). IsRecordMask table c.args.column c.args.block c.args.cmp c.args.against (bit_and c.in_ok-mask.mask c.word.result)) c.self.view_is
    (mask_seen _ _ _ _ _ _ c.self.invariant c.args.column c.in_ok-held.held.now (c.in_ok-held.ensures ∙ ap (λ items. option_flatten (slice_get items c.args.column.0)) c.as_slice.ensures.value)
    c.args.block c.args.cmp c.args.against c.in_ok-mask.mask c.word.result (search (rules, c.in_ok-mask.ensures.exact)) c.word.ensures)
