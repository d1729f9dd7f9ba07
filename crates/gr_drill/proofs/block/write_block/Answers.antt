use Rattle.std.proofs.Common.{◌∷◌, List, get_or, refl, sym, subst}
use Rattle.std.proofs.lemmas.List.{append-nil}
use Rattle.std.specs.Fmt.{decimal}
use Rattle.json.specs.Token.{Token, begin_array, end_array, number}
use Rattle.gr_drill.specs.Block.{Numbered}
use Rattle.gr_drill.specs.Inside.Legible.{IsLegible}
use Rattle.gr_drill.specs.Inside.Tokens.{column_tokens, row_tokens}
use Rattle.gr_drill.proofs.LegibleLemmas.{names-text}
use Rattle.gr_print.specs.Inside.Tokens.{array_of}
use Rattle.gr_print.proofs.WrittenLemmas.{values-end, values-more}
use Rattle.gr_values.specs.Tokens.{Appends}
use Rattle.gr_values.proofs.Written.{AllByRecursion-at, Appends-more}
use Rattle.gr_drill.proofs.block.write_block.Goals as goal

pub write_headings-requires : goal.write_headings-requires
write_headings-requires g c = names-text (g.R.Rows.tables c.args.rows.now) c.args.columns.now c.requires.columns

pub loop-group-init : goal.loop-group-init
loop-group-init g c =
    let head : List Token = begin_array ∷ begin_array ∷ number (decimal c.args.found) ∷ end_array ∷ array_of (column_tokens c.args.schema.now c.args.of) c.args.columns.now in
    subst (Appends c.args.writer.now c.write_headings.new.writer) (sym (append-nil head)) (Appends-more c.in_ok-open_array.ensures (Appends-more c.in_ok-write_found.ensures c.in_ok-write_headings.ensures))

pub write_row-requires-clause-legible : goal.write_row-requires-clause-legible
write_row-requires-clause-legible g c =
    let tables = g.R.Rows.tables c.args.rows.now in
    subst (λ (group : Numbered). IsLegible tables group.1.key) (sym c.group-item.is)
    (AllByRecursion-at (λ (group : Numbered). IsLegible tables group.1.key) c.args.shown.now c.loop-group.group-index c.group-item.result c.requires.legible c.loop-group-test.true)

pub loop-group-preserved : goal.loop-group-preserved
loop-group-preserved g c =
    let head : List Token = begin_array ∷ begin_array ∷ number (decimal c.args.found) ∷ end_array ∷ array_of (column_tokens c.args.schema.now c.args.of) c.args.columns.now in
    values-more head (row_tokens (g.R.Rows.tables c.args.rows.now) c.args.of c.args.columns.now) c.args.shown.now c.loop-group.group-index c.group-item.result c.group-item.result
    c.loop-group-test.true c.group-item.is c.loop-group.invariant c.in_ok-write_row.ensures

pub returns : goal.returns
returns g c =
    let head : List Token = begin_array ∷ begin_array ∷ number (decimal c.args.found) ∷ end_array ∷ array_of (column_tokens c.args.schema.now c.args.of) c.args.columns.now in
    values-end head (row_tokens (g.R.Rows.tables c.args.rows.now) c.args.of c.args.columns.now) c.args.shown.now c.loop-group.group-index c.loop-group-test.false c.loop-group.invariant c.in_ok-close_array.ensures
