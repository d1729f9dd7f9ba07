use Rattle.std.proofs.Common.{◌∷◌, List, get_or, refl, sym, subst}
use Rattle.std.proofs.lemmas.List.{append-nil}
use Rattle.std.specs.Fmt.{decimal}
use Rattle.json.specs.Token.{Token, begin_array, end_array, number}
use Rattle.gr_print.specs.Block.{Hit}
use Rattle.gr_print.specs.Inside.Tokens.{array_of, column_tokens, row_tokens}
use Rattle.gr_print.proofs.LegibleLemmas.{names-legible}
use Rattle.gr_print.proofs.WrittenLemmas.{values-end, values-more}
use Rattle.gr_values.specs.Tokens.{Appends}
use Rattle.gr_values.proofs.Written.{Appends-more}
use Rattle.gr_print.proofs.printing.write_block.Goals as goal

pub write_headings-requires : goal.write_headings-requires
write_headings-requires g c = names-legible (g.R.Rows.tables c.args.rows.now) c.args.columns.now c.requires

pub loop-hit-init : goal.loop-hit-init
loop-hit-init g c =
    let head : List Token = begin_array ∷ begin_array ∷ number (decimal c.args.found) ∷ end_array ∷ array_of (column_tokens c.args.schema.now) c.args.columns.now in
    subst (Appends c.args.writer.now c.write_headings.new.writer) (sym (append-nil head)) (Appends-more c.in_ok-open_array.ensures (Appends-more c.in_ok-write_found.ensures c.in_ok-write_headings.ensures))

pub loop-hit-preserved : goal.loop-hit-preserved
loop-hit-preserved g c =
    let head : List Token = begin_array ∷ begin_array ∷ number (decimal c.args.found) ∷ end_array ∷ array_of (column_tokens c.args.schema.now) c.args.columns.now in
    let none : Hit = (record { 0 = 0 }, 0) in
    values-more head (row_tokens (g.R.Rows.tables c.args.rows.now) c.args.columns.now) c.args.shown.now c.loop-hit.hit-index none (get_or c.args.shown.now c.loop-hit.hit-index none)
    c.loop-hit-test.true refl c.loop-hit.invariant c.in_ok-write_row.ensures

pub returns : goal.returns
returns g c =
    let head : List Token = begin_array ∷ begin_array ∷ number (decimal c.args.found) ∷ end_array ∷ array_of (column_tokens c.args.schema.now) c.args.columns.now in
    values-end head (row_tokens (g.R.Rows.tables c.args.rows.now) c.args.columns.now) c.args.shown.now c.loop-hit.hit-index c.loop-hit-test.false c.loop-hit.invariant c.in_ok-close_array.ensures
