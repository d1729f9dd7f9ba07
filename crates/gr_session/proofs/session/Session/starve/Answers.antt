use Rattle.gr_session.proofs.session.Session.starve.Goals as goal

pub returns : goal.returns
returns c = rw (c.end.ensures, c.from.ensures) at c.finish.ensures
