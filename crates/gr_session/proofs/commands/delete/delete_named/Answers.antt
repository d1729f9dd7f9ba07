use Rattle.std.proofs.Common.{sym}
use Rattle.gr_session.proofs.commands.delete.delete_named.Goals as goal

pub which-requires-clause-name : goal.which-requires-clause-name
which-requires-clause-name c = (c.indexes-sound.ensures.sound.tables c.args.table.0 c.in-Some.home.now (sym c.in-Some.ensures)).utf8

pub which-requires-clause-key : goal.which-requires-clause-key
which-requires-clause-key c = (c.indexes-sound.ensures.sound.tables c.args.table.0 c.in-Some.home.now (sym c.in-Some.ensures)).key_type
