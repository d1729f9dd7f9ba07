use Rattle.std.proofs.Common.{arith}
use Rattle.gr_text.proofs.Names.{BeginsName, names_len-BeginsName}
use Rattle.gr_text.proofs.paths.next_name_len.Goals as goal

pub returns-in_default-name_len-clause-further : goal.returns-in_default-name_len-clause-further
returns-in_default-name_len-clause-further c =
    let begins : BeginsName c.args.bytes.now c.name_len.result = record { first = c.in-Some.first.now; others = c.in-Some.others.now; parts = c.in-Some.ensures.cases.0; dot = c.if-first-ne46.false; counted = c.name_len.ensures.exact; some = omega arith } in
    names_len-BeginsName begins
