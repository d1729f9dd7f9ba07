-- What `column_create` asks for and answers.
use Rattle.std.specs.Prelude.{[], ◌∷◌, codes}
use Rattle.gr_cmdline.specs.declared.command.Command.{Command}
use Rattle.gr_cmdline.specs.declared.param.Param.TheVariants.{ColumnType, Flags, Name, Source, Table}
use Rattle.gr_db.specs.declared.entry.Change.TheVariants.{CreateColumn}
use Rattle.gr_schema.specs.declared.wish.ColumnWish.{ColumnWish}
use Rattle.gr_session.specs.Checks.{text_of}
use Rattle.gr_session.specs.Meaning.{Meaning, meaning_in}
use Rattle.gr_session.specs.ReplyText.{success_line}
use Rattle.gr_session.specs.declared.form.Form.TheVariants.{Plain}

-- the column that is asked for, in the command's own words
abbrev pub column_wish : Command → ColumnWish
column_wish command = record {
  table = text_of command Table;
  name = text_of command Name;
  flags = text_of command Flags;
  kind = text_of command ColumnType;
  source = text_of command Source;
}

-- what `column_create` means: one column is to be made
abbrev pub column_create : Command → Meaning
column_create command = meaning_in Plain (CreateColumn (column_wish command) ∷ []) (success_line (codes "true"))
