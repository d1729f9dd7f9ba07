use Rattle.gr_script.proofs.Longest.{longest}
use Rattle.gr_script.proofs.answers.longest_token.Goals as goal

pub returns : goal.returns
returns c = longest
