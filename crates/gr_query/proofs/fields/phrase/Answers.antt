use Rattle.std.proofs.Common.{◌≤◌, IsUtf8, drop, length, lit<, ap, arith, one-add}
use Rattle.gr_query.proofs.Ends.{IsUtf8-others}
use Rattle.gr_query.proofs.fields.phrase.Goals as goal

pub returns-in-Some-clause-held : goal.returns-in-Some-clause-held
returns-in-Some-clause-held c =
    let utf8 : IsUtf8 c.args.others.now = IsUtf8-others c.requires.parts (lit< tt) c.requires.text in
    let within : c.in-Some.len ≤ length c.args.others.now = rw c.in-Some.is at c.in_ok-text.ensures.within in
    let text : IsUtf8 c.in-Some.text = rw c.in-Some.is at (c.in_ok-text.ensures.text utf8) in
    let rest : IsUtf8 (drop c.in-Some.len c.args.others.now) = rw c.in-Some.is at (c.in_ok-text.ensures.rest utf8) in
    record {
      some = omega arith;
      within = omega (arith, within, ap length c.requires.parts);
      text = text;
      rest = rw (c.requires.parts, one-add) rest;
    }
