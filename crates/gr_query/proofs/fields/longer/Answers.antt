use Rattle.std.proofs.Common.{arith}
use Rattle.gr_query.proofs.Ends.{IsUtf8-behind_one}
use Rattle.gr_query.proofs.fields.longer.Goals as goal

pub returns-then-second-eq61-clause-rest : goal.returns-then-second-eq61-clause-rest
returns-then-second-eq61-clause-rest c = IsUtf8-behind_one c.in-Some.ensures.cases.0 (omega (arith, c.if-second-eq61.true))
