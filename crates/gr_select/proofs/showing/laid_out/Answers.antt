use Rattle.std.proofs.Common.{refl}
use Rattle.gr_select.specs.Select.{db_of}
use Rattle.gr_select.proofs.showing.laid_out.Goals as goal

pub shown-requires-clause-layout : goal.shown-requires-clause-layout
shown-requires-clause-layout g c = c.in_ok-layout.ensures.fit (db_of c.args.schema.now (g.B.Rows.tables c.args.rows.now)) refl c.requires.fitting
