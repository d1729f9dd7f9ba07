-- A phrase has no more words than bytes.
use Rattle.std.proofs.Common.{rules, refl, arith}
use Rattle.gr_tokens.proofs.WordLemmas.{length-words}
use Rattle.gr_tokens.proofs.word_match.Match.new.Goals as goal

pub returns-clause-is_match : goal.returns-clause-is_match
returns-clause-is_match c =
    let words_few = length-words c.args.phrase.now in
    record { few = search rules; same = refl; in_phrase = omega arith; in_text = omega arith; after = refl; wanted = refl }
