-- A space among the first bytes is one of the text.
use Rattle.gr_tokens.proofs.PlainLemmas.{near-found}
use Rattle.gr_tokens.proofs.plain.near_space.Goals as goal

pub returns : goal.returns
returns c = near-found c.args.text.now c.memrchr.result c.memrchr.ensures
