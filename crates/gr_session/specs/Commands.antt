-- What each command means, and each line that is refused.
use Rattle.std.specs.Prelude.{Option, Some, None}
use Rattle.gr_base.specs.declared.fault.Fault.{Fault}
use Rattle.gr_cmdline.specs.declared.command.Command.{Command}
use Rattle.gr_cmdline.specs.declared.command.Item.{Item}
use Rattle.gr_cmdline.specs.declared.command.Item.TheVariants.{Command as Asked, Bad}
use Rattle.gr_cmdline.specs.declared.verb.Verb.{Verb}
use Rattle.gr_cmdline.specs.declared.verb.Verb.TheVariants.{TableCreate, ColumnCreate, Load, Delete, Select, Dump}
use Rattle.gr_db.specs.Db.{Db}
use Rattle.gr_session.specs.ColumnCreate.{column_create}
use Rattle.gr_session.specs.Delete.{delete, name_given}
use Rattle.gr_session.specs.Dump.{dump}
use Rattle.gr_session.specs.Fixed.{fixed_fault}
use Rattle.gr_session.specs.Load.{load}
use Rattle.gr_select.specs.declared.texts.Texts.{Texts}
use Rattle.gr_session.specs.Meaning.{Meaning, refused_in}
use Rattle.gr_session.specs.Select.{select}
use Rattle.gr_session.specs.TableCreate.{table_create}
use Rattle.gr_session.specs.declared.parsed.Parsed.{Parsed}
use Rattle.gr_session.specs.declared.form.Form.{Form}
use Rattle.gr_session.specs.declared.form.Form.TheVariants.{Plain, Counting, Naming}

-- how a command's replies are written: those of a load count its rows, and those of a delete name its record
abbrev pub form_by_verb : Verb → Command → Form
form_by_verb TableCreate command = Plain
form_by_verb ColumnCreate command = Plain
form_by_verb Load command = Counting
form_by_verb Delete command = Naming (name_given command)
form_by_verb Select command = Plain
form_by_verb Dump command = Plain

-- how this command's replies are written
abbrev pub form_of_command : Command → Form
form_of_command command = form_by_verb command.verb command

-- what a command means whose fixed parameters are right
abbrev pub meaning_by_verb : Verb → Db → Command → Texts → Meaning
meaning_by_verb TableCreate db command texts = table_create command
meaning_by_verb ColumnCreate db command texts = column_create command
meaning_by_verb Load db command texts = load db command
meaning_by_verb Delete db command texts = delete db command texts
meaning_by_verb Select db command texts = select db command texts
meaning_by_verb Dump db command texts = dump db

-- what a command means, unless a fixed parameter is wrong
abbrev pub meaning_unless : Option Fault → Db → Command → Texts → Meaning
meaning_unless (Some fault) db command texts = refused_in (form_of_command command) fault
meaning_unless None db command texts = meaning_by_verb command.verb db command texts

-- what an item with these texts means, read at a database
abbrev pub meaning_with : Db → Texts → Item → Meaning
meaning_with db texts (Bad fault) = refused_in Plain fault
meaning_with db texts (Asked command) = meaning_unless (fixed_fault command) db command texts

-- what an item means, read at a database
abbrev pub meaning_of : Db → Parsed → Meaning
meaning_of db parsed = meaning_with db parsed.texts parsed.item
