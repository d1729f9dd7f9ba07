use Rattle.gr_query.specs.Token.{tokens_of}
use Rattle.gr_query.proofs.Fitting.{told_made, told_query, told_refusal, told_shape}
use Rattle.gr_query.proofs.query.parse.Goals as goal

pub returns : goal.returns
returns c =
    let tells = rw c.new.ensures at c.read.ensures in
    record {
      query = told_query (tokens_of c.args.text.now) c.read.result tells;
      made = told_made (tokens_of c.args.text.now) c.read.result tells;
      shape = told_shape (tokens_of c.args.text.now) c.read.result tells;
      refused = told_refusal (tokens_of c.args.text.now) c.read.result tells;
    }
