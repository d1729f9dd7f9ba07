use Rattle.std.proofs.Common.{sym}
use Rattle.gr_session.proofs.commands.delete_found.condition_in.Goals as goal

pub lexicon_fault-requires : goal.lexicon_fault-requires
lexicon_fault-requires c = (c.indexes-sound.ensures.sound.tables c.args.table.0 c.in-Some.home.now (sym c.in-Some.ensures)).utf8
