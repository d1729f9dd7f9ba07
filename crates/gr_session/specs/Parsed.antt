-- An item whose texts were read.
use Rattle.std.specs.Prelude.{None}
use Rattle.gr_cmdline.specs.declared.command.Item.{Item}
use Rattle.gr_cmdline.specs.declared.command.Item.TheVariants.{Command as Asked, Bad}
use Rattle.gr_select.specs.Texts.{AreReadings}
use Rattle.gr_select.specs.declared.texts.Texts.{Texts}
use Rattle.gr_session.specs.declared.parsed.Parsed.{Parsed}

-- an item with what its texts are read as
abbrev pub parsed_as : Item → Texts → Parsed
parsed_as item texts = record { item = item; texts = texts }

-- no text
abbrev pub no_texts : Texts
no_texts = record { columns = None; query = None; filter = None }

-- the texts of an item are read as these; of a line that is refused nothing is read
abbrev pub IsRead : Item → Texts → Type 0
IsRead (Asked command) texts = AreReadings command.args.given texts
IsRead (Bad fault) texts = Unit {0}
