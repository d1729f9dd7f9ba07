use Rattle.std.proofs.Common.{rules}
use Rattle.std.specs.FinMap.{gets}
use Rattle.gr_pat_keys.proofs.tests.with_key.Goals as goal

pub returns : goal.returns
returns g c = grind (gets, rules)
