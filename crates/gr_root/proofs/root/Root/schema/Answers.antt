use Rattle.std.proofs.Common.{subst}
use Rattle.gr_schema.specs.Sound.{IsSound as IsSoundSchema}
use Rattle.gr_root.proofs.AppliedLemmas.{state-fitting}
use Rattle.gr_root.proofs.root.Root.schema.Goals as goal

pub returns-clause-fitting : goal.returns-clause-fitting
returns-clause-fitting c = state-fitting c.self.inside c.args.self.now c.self.invariant c.self.view_is (subst IsSoundSchema c.get-schema.ensures c.tell_sound.ensures)
