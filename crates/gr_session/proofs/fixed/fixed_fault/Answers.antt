use Rattle.gr_session.proofs.fixed.fixed_fault.Goals as goal

pub returns-clause-exact : goal.returns-clause-exact
returns-clause-exact c = rw c.fixed_checks.ensures at c.first_failed.ensures.exact
