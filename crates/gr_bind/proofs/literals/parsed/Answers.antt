use Rattle.std.proofs.Common.{sym}
use Rattle.gr_bind.proofs.Numbers.{not_value}
use Rattle.gr_bind.proofs.literals.parsed.Goals as goal

pub returns-in-Err : goal.returns-in-Err
returns-in-Err c = sym (not_value c.args.text.now c.parse.result _ c.parse.ensures.value.0 c.requires c.in-Err.is)
