use Rattle.std.proofs.Common.{arith}
use Rattle.gr_script.proofs.Ends.{path_len-some}
use Rattle.gr_script.proofs.tokenizer.path_at.Goals as goal

pub returns-clause-held : goal.returns-clause-held
returns-clause-held c = record {
  some = omega (arith, c.path_len-len.ensures.exact, path_len-some c.args.bytes.now c.requires.name);
  within = c.path_len-len.ensures.within;
  text = rw (c.in_ok-path.ensures, c.split_at.ensures.front) c.path_len-len.ensures.text;
  rest = c.path_len-len.ensures.rest c.requires.text;
}
