use Rattle.std.proofs.Common.{rules}
use Rattle.gr_turn.proofs.StepLemmas.{calls}
use Rattle.gr_turn.proofs.steps.leave.Goals as goal

pub fetch_add-served-requires : goal.fetch_add-served-requires
fetch_add-served-requires g c = let t = c.requires.serves in (
  search rules,
  search rules,
  calls g.T.Held.entries g.T.Held.fixed _ _ _ _ t.0 c.args.value (search rules) (search rules) (search rules) (search rules) (search rules),
)
