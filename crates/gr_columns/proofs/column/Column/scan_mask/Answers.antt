use Rattle.std.proofs.Common.{pos, refl, sym, ap, ◌∙◌, subst}
use mir.Syntax.{w128}
use Rattle.std.proofs.lemmas.Int.{to_z-of_z}
use Rattle.gr_values.specs.declared.value.Cell.{Cell}
use Rattle.gr_columns.specs.Masks.{IsBlockMask}
use Rattle.gr_columns.specs.Inside.Kept.{blank_cell, cells_of}
use Rattle.gr_columns.proofs.Scans.{block_mask}
use Rattle.gr_columns.proofs.column.Column.scan_mask.Goals as goal

pub returns-in-Signed-clause-exact : goal.returns-in-Signed-clause-exact
returns-in-Signed-clause-exact c =
    subst (λ column. IsBlockMask column c.args.block c.args.cmp c.args.against c.signed_mask.result) c.self.view_is
    (block_mask Cell.Int (λ number. number) (λ number. refl) _ c.in-Signed.numbers c.args.block c.args.cmp c.args.against _ c.block.result.now c.signed_mask.result (ap cells_of c.in-Signed.is) (sym c.self.invariant.blank ∙ ap blank_cell c.in-Signed.is) (to_z-of_z w128 c.args.against c.ranges.against) c.block.ensures.whole c.block.ensures.exact c.signed_mask.ensures)

pub returns-in-Unsigned-clause-exact : goal.returns-in-Unsigned-clause-exact
returns-in-Unsigned-clause-exact c =
    subst (λ column. IsBlockMask column c.args.block c.args.cmp c.args.against c.unsigned_mask.result) c.self.view_is
    (block_mask (λ number. Cell.Int (pos number)) pos (λ number. refl) _ c.in-Unsigned.numbers c.args.block c.args.cmp c.args.against _ c.block-in-Unsigned.result.now c.unsigned_mask.result (ap cells_of c.in-Unsigned.is) (sym c.self.invariant.blank ∙ ap blank_cell c.in-Unsigned.is) (to_z-of_z w128 c.args.against c.ranges.against) c.block-in-Unsigned.ensures.whole c.block-in-Unsigned.ensures.exact c.unsigned_mask.ensures)
