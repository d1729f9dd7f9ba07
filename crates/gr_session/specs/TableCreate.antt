-- What `table_create` asks for and answers.
use Rattle.std.specs.Prelude.{[], ◌∷◌, codes}
use Rattle.gr_cmdline.specs.declared.command.Command.{Command}
use Rattle.gr_cmdline.specs.declared.param.Param.TheVariants.{DefaultTokenizer, Flags, KeyType, Name}
use Rattle.gr_db.specs.declared.entry.Change.TheVariants.{CreateTable}
use Rattle.gr_schema.specs.declared.wish.TableWish.{TableWish}
use Rattle.gr_session.specs.Checks.{text_of}
use Rattle.gr_session.specs.Meaning.{Meaning, meaning_in}
use Rattle.gr_session.specs.ReplyText.{success_line}
use Rattle.gr_session.specs.declared.form.Form.TheVariants.{Plain}

-- the table that is asked for, in the command's own words
abbrev pub table_wish : Command → TableWish
table_wish command = record {
  name = text_of command Name;
  flags = text_of command Flags;
  key_type = text_of command KeyType;
  tokenizer = text_of command DefaultTokenizer;
}

-- what `table_create` means: one table is to be made
abbrev pub table_create : Command → Meaning
table_create command = meaning_in Plain (CreateTable (table_wish command) ∷ []) (success_line (codes "true"))
