-- How an item's replies are written.
use Rattle.std.specs.Prelude.{IsUtf8}
use Rattle.gr_cmdline.specs.declared.command.Item.{Item}
use Rattle.gr_cmdline.specs.declared.command.Item.TheVariants.{Command as Asked, Bad}
use Rattle.gr_session.specs.Commands.{form_of_command}
use Rattle.gr_session.specs.declared.form.Form.{Form}
use Rattle.gr_session.specs.declared.form.Form.TheVariants.{Plain, Counting, Naming}

-- those of a command by its name; a line that is refused counts no rows and names no record
abbrev pub form_of : Item → Form
form_of (Asked command) = form_of_command command
form_of (Bad fault) = Plain

-- a name that is told is text
abbrev pub IsLegible : Form → Type 0
IsLegible Plain = Unit {0}
IsLegible Counting = Unit {0}
IsLegible (Naming name) = IsUtf8 name
