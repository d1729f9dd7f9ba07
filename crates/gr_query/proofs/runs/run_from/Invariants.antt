use Rattle.std.proofs.Common.{length}
use Rattle.gr_query.proofs.Running.{AreRead}
use Rattle.gr_query.proofs.runs.run_from.Given as goal

abbrev pub invariant-characters : goal.invariant-characters
invariant-characters l = AreRead l.bytes l.text.items l.rest l.is_starred

abbrev pub decreases-characters : goal.decreases-characters
decreases-characters l = length l.rest
