use Rattle.std.proofs.Common.{rules, arith}
use Rattle.gr_turn.proofs.StepLemmas.{draws}
use Rattle.gr_turn.proofs.steps.draw.Goals as goal

pub compare_exchange-requires : goal.compare_exchange-requires
compare_exchange-requires g c = (search rules, search rules, draws g.T.Held.entries g.T.Held.fixed _ _ _ _ _ c.requires.ready.0 c.requires.ready.1 (omega arith))
