-- What `dump` answers.
use Rattle.std.specs.Prelude.{[]}
use Rattle.gr_db.specs.Db.{Db}
use Rattle.gr_dump.specs.Dump.{dump_text}
use Rattle.gr_session.specs.Meaning.{Meaning, meaning_in}
use Rattle.gr_session.specs.declared.form.Form.TheVariants.{Plain}

-- what `dump` means: the commands that make the database again, with no line around them
abbrev pub dump : Db → Meaning
dump db = meaning_in Plain [] (dump_text db.schema db.tables)
