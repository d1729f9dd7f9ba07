use Rattle.std.proofs.Common.{arith}
use Rattle.gr_query.proofs.Ends.{IsUtf8-behind_more, IsUtf8-behind_one}
use Rattle.gr_query.proofs.fields.op_at.Goals as goal

pub returns-in-33-clause-rest : goal.returns-in-33-clause-rest
returns-in-33-clause-rest c = IsUtf8-behind_one c.in-Some.ensures.cases.0 (omega (arith, c.in-33.is))

pub returns-in-60-clause-rest : goal.returns-in-60-clause-rest
returns-in-60-clause-rest c = IsUtf8-behind_more c.in-Some.ensures.cases.0 (omega (arith, c.in-60.is)) c.longer.ensures.some c.longer.ensures.rest

pub returns-in-62-clause-rest : goal.returns-in-62-clause-rest
returns-in-62-clause-rest c = IsUtf8-behind_more c.in-Some.ensures.cases.0 (omega (arith, c.in-62.is)) c.longer-in-62.ensures.some c.longer-in-62.ensures.rest

pub returns-in-64-clause-rest : goal.returns-in-64-clause-rest
returns-in-64-clause-rest c = IsUtf8-behind_one c.in-Some.ensures.cases.0 (omega (arith, c.in-64.is))

pub returns-in-94-clause-rest : goal.returns-in-94-clause-rest
returns-in-94-clause-rest c = IsUtf8-behind_one c.in-Some.ensures.cases.0 (omega (arith, c.in-94.is))

pub returns-in-36-clause-rest : goal.returns-in-36-clause-rest
returns-in-36-clause-rest c = IsUtf8-behind_one c.in-Some.ensures.cases.0 (omega (arith, c.in-36.is))
