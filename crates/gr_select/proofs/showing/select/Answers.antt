use Rattle.gr_db.proofs.Grows.{extends-itself}
use Rattle.gr_select.specs.Select.{db_of}
use Rattle.gr_select.proofs.showing.select.Goals as goal

pub laid_out-requires-clause-fits : goal.laid_out-requires-clause-fits
laid_out-requires-clause-fits g c = c.in_ok-condition.ensures.fit (db_of c.args.schema.now (g.B.Rows.tables c.args.rows.now)) (extends-itself c.args.schema.now) c.requires.fitting
