-- Each bigram begins at a byte of its own.
use Rattle.gr_tokens.proofs.BigramLemmas.{length-bigrams-chars}
use Rattle.gr_tokens.proofs.bigram.Bigram.new.Goals as goal

pub returns-clause-few : goal.returns-clause-few
returns-clause-few c = length-bigrams-chars c.args.text.now c.utf8.text
