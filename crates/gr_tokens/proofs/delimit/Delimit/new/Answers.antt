-- Each word takes a byte.
use Rattle.gr_tokens.proofs.WordLemmas.{length-words}
use Rattle.gr_tokens.proofs.delimit.Delimit.new.Goals as goal

pub returns-clause-few : goal.returns-clause-few
returns-clause-few c = length-words c.args.text.now
