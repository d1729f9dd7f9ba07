use Rattle.std.proofs.Common.{◌≡◌}
use Rattle.gr_cmdline.specs.Arguments.{value_of}
use Rattle.gr_cmdline.specs.declared.param.Param.TheVariants.{Columns, Values}
use Rattle.gr_rows.specs.Rows.{rows_of}
use Rattle.gr_session.specs.Checks.{text_of}
use Rattle.gr_session.proofs.LoadLemmas.{Asks-load}
use Rattle.gr_session.proofs.commands.load.load_into.Goals as goal

pub returns : goal.returns
returns c = λ db home same at.
    let command = c.args.command.now in
    let rows = c.in_ok-rows.rows in
    let meant : rows ≡ rows_of db.schema home (value_of command.args.given Columns) (text_of command Values) =
    rw (same, ← c.get-columns.ensures, ← c.text_of.ensures) (c.in_ok-rows.ensures.exact home at) in
    Asks-load db c.args.schema.now c.args.table rows (rows_of db.schema home (value_of command.args.given Columns) (text_of command Values))
    (record { changes = c.in_ok-changes.changes; answer = c.in_ok-answer.answer })
    same meant c.in_ok-rows.ensures.valid c.in_ok-changes.ensures (rw c.as_slice.ensures at c.in_ok-answer.ensures)
