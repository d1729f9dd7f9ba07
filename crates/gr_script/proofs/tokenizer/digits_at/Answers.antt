use Rattle.std.proofs.Common.{arith}
use Rattle.gr_script.proofs.Ends.{digits_len-some}
use Rattle.gr_script.proofs.tokenizer.digits_at.Goals as goal

pub returns-clause-held : goal.returns-clause-held
returns-clause-held c = record {
  some = omega (arith, c.digits_len-len.ensures.exact, digits_len-some c.args.bytes.now c.requires.digit);
  within = c.digits_len-len.ensures.within;
  text = tt;
  rest = c.digits_len-len.ensures.rest c.requires.text;
}
