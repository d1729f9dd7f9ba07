use Rattle.gr_query.proofs.Ends.{IsUtf8-unstarred}
use Rattle.gr_query.proofs.tokenizer.prefix_of.Goals as goal

pub returns-clause-text : goal.returns-clause-text
returns-clause-text c = λ star utf8. (tt, rw (c.in_ok-text.ensures, c.pop-star.ensures.rest, c.args.run.text.ok.0) (IsUtf8-unstarred star utf8))
