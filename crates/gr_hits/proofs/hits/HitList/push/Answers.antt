use Rattle.gr_hits.proofs.HitLemmas.{hits-push}
use Rattle.gr_hits.proofs.hits.HitList.push.Goals as goal

pub invariant_of-self-2 : goal.invariant_of-self-2
invariant_of-self-2 c = rw c.in_ok-push.ensures.items (hits-push _ c.args.id c.args.score c.self.invariant (rw c.self.view_is c.requires.later) c.requires.score)
