use Rattle.std.proofs.Common.{refl}
use Rattle.gr_session.proofs.commands.delete.which.Goals as goal

pub returns-in-None-clause-fits : goal.returns-in-None-clause-fits
returns-in-None-clause-fits c = c.which_given.ensures.fits c.args.home.now refl
