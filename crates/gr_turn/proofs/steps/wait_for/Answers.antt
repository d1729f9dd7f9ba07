use Rattle.std.proofs.Common.{rules, ap, ◌∙◌}
use Rattle.gr_turn.proofs.StepLemmas.{looks}
use Rattle.gr_turn.proofs.steps.wait_for.Goals as goal

pub load-served-requires : goal.load-served-requires
load-served-requires g c = (search rules, search rules, looks g.T.Held.entries g.T.Held.fixed _ _ _ _ c.args.number (ap (λ m. m.0.stage) c.loop.invariant.1 ∙ c.requires.waits))
