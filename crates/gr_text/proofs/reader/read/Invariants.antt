use Rattle.std.proofs.Common.{length}
use Rattle.gr_text.specs.Cut.{cut}
use Rattle.gr_text.specs.Lexing.{left_of}
use Rattle.gr_text.specs.Inside.Reading.{HasRead, rules_by}
use Rattle.gr_text.proofs.reader.read.Given as goal

abbrev pub invariant-tokens : goal.invariant-tokens
invariant-tokens g l = HasRead (rules_by g.R.Reader.steps g.R.Reader.ends g.R.Reader.has_no_value g.R.Token.Token.IsText l.otherwise l.fn.reader) (cut g.R.Token.Token.starts l.text) (left_of g.R.Token.Token.starts l.lexer) l.reader l.valueless

abbrev pub decreases-tokens : goal.decreases-tokens
decreases-tokens g l = length (left_of g.R.Token.Token.starts l.lexer).tokens
