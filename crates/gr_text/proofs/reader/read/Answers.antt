use Rattle.std.proofs.Common.{◌∙◌, zero-add, length}
use Rattle.gr_text.specs.Cut.{cut}
use Rattle.gr_text.proofs.Cuts.{length-cut_from}
use Rattle.gr_text.proofs.Turning.{start_stands}
use Rattle.gr_text.proofs.reader.read.Goals as goal

pub tokens-init : goal.tokens-init
tokens-init g c = rw c.new-lexer.ensures (start_stands _ (cut g.R.Token.Token.starts c.args.text.now))

pub returns-in-Ends : goal.returns-in-Ends
returns-in-Ends g c =
    let turned = rw c.in-Ends.is at c.in_ok-turn.ensures.turned in
    let t = turned c.args.reader (cut g.R.Token.Token.starts c.args.text.now) c.tokens.invariant in
    c.ended.ensures c.args.reader (cut g.R.Token.Token.starts c.args.text.now) _ t.0 t.1 t.2 (length-cut_from g.R.Token.Token.starts 0 0 c.args.text.now ∙ zero-add (length c.args.text.now))
