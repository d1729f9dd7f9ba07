-- None of the periods so far is the one that is looked for.
use Rattle.std.proofs.Common.{take}
use Rattle.gr_tokens.specs.Inside.Kept.{NoneCovers}
use Rattle.gr_tokens.proofs.periods.Periods.of_beginning.Given as goal

abbrev pub invariant-loop-period : goal.invariant-loop-period
invariant-loop-period l = NoneCovers (take l.period-index l.self.kept.items) l.count
