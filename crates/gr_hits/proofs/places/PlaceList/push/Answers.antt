use Rattle.gr_hits.proofs.PlaceLemmas.{ascend-push}
use Rattle.gr_hits.proofs.places.PlaceList.push.Goals as goal

pub invariant_of-self-2 : goal.invariant_of-self-2
invariant_of-self-2 c = rw c.in_ok-push.ensures.items (ascend-push _ (c.args.id, c.args.position) c.self.invariant (rw c.self.view_is c.requires.later))
