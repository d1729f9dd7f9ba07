-- What `select` answers.
use Rattle.std.specs.Prelude.{ℕ, Option, Some, None, Result, Ok, Err, List, []}
use Rattle.gr_base.specs.Fault.{fault_named}
use Rattle.gr_base.specs.declared.fault.Fault.{Fault}
use Rattle.gr_base.specs.declared.fault.FaultKind.TheVariants.{NoSuchTable}
use Rattle.gr_cmdline.specs.declared.command.Command.{Command}
use Rattle.gr_cmdline.specs.declared.param.Param.TheVariants.{Table as OfTable}
use Rattle.gr_db.specs.Db.{Db}
use Rattle.gr_schema.specs.Wishes.{Home, home_named}
use Rattle.gr_select.specs.Select as shown
use Rattle.gr_select.specs.declared.texts.Texts.{Texts}
use Rattle.gr_session.specs.Checks.{text_of}
use Rattle.gr_session.specs.Meaning.{Meaning, meaning_in, refused_in}
use Rattle.gr_session.specs.ReplyText.{success_line}
use Rattle.gr_session.specs.declared.form.Form.TheVariants.{Plain}

-- what is shown, or why not
abbrev pub told : Result (List ℕ) Fault → Meaning
told (Ok text) = meaning_in Plain [] (success_line text)
told (Err fault) = refused_in Plain fault

-- what is shown of a table, which must be there
abbrev pub select_of : Db → Option Home → Command → Texts → Meaning
select_of db None command texts = refused_in Plain (fault_named NoSuchTable (text_of command OfTable))
select_of db (Some home) command texts = told (shown.select db home command.args.given texts)

-- what `select` means
abbrev pub select : Db → Command → Texts → Meaning
select db command texts = select_of db (home_named db.schema (text_of command OfTable)) command texts
