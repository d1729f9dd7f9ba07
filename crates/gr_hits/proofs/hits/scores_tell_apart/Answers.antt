use Rattle.gr_hits.proofs.SameLemmas.{same_hits}
use Rattle.gr_hits.proofs.hits.scores_tell_apart.Goals as goal

pub returns : goal.returns
returns c = same_hits
