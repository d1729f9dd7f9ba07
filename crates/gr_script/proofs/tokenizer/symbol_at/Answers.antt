use Rattle.std.proofs.Common.{length, ap, arith}
use Rattle.gr_script.proofs.Ends.{BeginsWithTwo, IsUtf8-behind_one, IsUtf8-behind_two, length-BeginsWithTwo}
use Rattle.gr_script.proofs.tokenizer.symbol_at.Goals as goal

pub returns-in-Some-clause-held : goal.returns-in-Some-clause-held
returns-in-Some-clause-held c =
    let begins : BeginsWithTwo c.args.bytes.now c.args.others.now c.args.first c.first_or_zero-second.result = record { parts = c.requires.parts; second = c.first_or_zero-second.ensures; some = c.in-Some.ensures.some; ascii = c.in-Some.ensures.first; ascii_second = c.in-Some.ensures.second } in
    record { some = omega arith; within = length-BeginsWithTwo begins; text = tt; rest = IsUtf8-behind_two begins c.requires.text }

pub returns-clause-held : goal.returns-clause-held
returns-clause-held c = record {
  some = omega arith;
  within = omega (arith, ap length c.requires.parts);
  text = tt;
  rest = rw c.requires.parts (IsUtf8-behind_one c.requires.parts c.in_ok-symbol.ensures.ascii c.requires.text);
}
