-- What `load` asks for and answers.
use Rattle.std.specs.Prelude.{ℕ, Option, Some, None, List, length, map}
use Rattle.std.specs.Fmt.{decimal}
use Rattle.gr_base.specs.Fault.{fault_named}
use Rattle.gr_base.specs.declared.fault.Fault.{Fault}
use Rattle.gr_base.specs.declared.fault.FaultKind.TheVariants.{NoSuchTable}
use Rattle.gr_base.specs.declared.numbers.TableNo.{TableNo}
use Rattle.gr_cmdline.specs.Arguments.{value_of}
use Rattle.gr_cmdline.specs.declared.command.Command.{Command}
use Rattle.gr_cmdline.specs.declared.param.Param.TheVariants.{Columns, Table, Values}
use Rattle.gr_db.specs.Db.{Db}
use Rattle.gr_db.specs.declared.entry.Change.{Change}
use Rattle.gr_db.specs.declared.entry.Change.TheVariants.{Put as PutChange}
use Rattle.gr_rows.specs.Rows.{rows_of}
use Rattle.gr_rows.specs.declared.load.LoadRows.{LoadRows}
use Rattle.gr_rows.specs.declared.put.Put.{Put}
use Rattle.gr_schema.specs.Schema.{SchemaDef}
use Rattle.gr_schema.specs.Wishes.{Home, home_named}
use Rattle.gr_session.specs.Checks.{text_of}
use Rattle.gr_session.specs.Meaning.{Meaning, meaning_in, refused_in}
use Rattle.gr_session.specs.ReplyText.{refusal_line, success_line}
use Rattle.gr_session.specs.declared.form.Form.TheVariants.{Counting}

-- the changes that puts are
abbrev pub changes_of : TableNo → List Put → List Change
changes_of table puts = map (λ put. PutChange table put.key put.settings) puts

-- success with the number of rows, or the fault of the row after them
abbrev pub rows_line : List ℕ → Option Fault → List ℕ
rows_line count None = success_line count
rows_line count (Some fault) = refusal_line fault count

-- the rows before the first that is refused are to be put, and then that one's fault is told
abbrev pub load_of_rows : TableNo → LoadRows → Meaning
load_of_rows table rows = meaning_in Counting (changes_of table rows.puts) (rows_line (decimal (length rows.puts)) rows.fault)

-- load data for a table, which must be there
abbrev pub load_at : SchemaDef → Option Home → Command → Meaning
load_at schema None command = refused_in Counting (fault_named NoSuchTable (text_of command Table))
load_at schema (Some home) command =
    load_of_rows home.number (rows_of schema home.def (value_of command.args.given Columns) (text_of command Values))

-- what `load` means
abbrev pub load : Db → Command → Meaning
load db command = load_at db.schema (home_named db.schema (text_of command Table)) command
