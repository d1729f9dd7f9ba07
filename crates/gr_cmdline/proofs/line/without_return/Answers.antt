use Rattle.std.proofs.Common.{arith}
use Rattle.gr_cmdline.proofs.Ends.{without_return-cut, without_return-kept}
use Rattle.gr_cmdline.proofs.line.without_return.Goals as goal

pub returns-then-last-eq13 : goal.returns-then-last-eq13
returns-then-last-eq13 c = without_return-cut c.args.line.now (omega (arith, c.in-len1-up.len_at_least)) c.if-last-eq13.true

pub returns-else-last-eq13 : goal.returns-else-last-eq13
returns-else-last-eq13 c = without_return-kept c.args.line.now (omega (arith, c.in-len1-up.len_at_least)) c.if-last-eq13.false
