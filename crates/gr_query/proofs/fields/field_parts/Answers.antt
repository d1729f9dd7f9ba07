use Rattle.std.proofs.Common.{IsUtf8, arith}
use Rattle.gr_query.proofs.Ends.{IsUtf8-others, behind_mark}
use Rattle.gr_query.proofs.fields.field_parts.Goals as goal

pub returns-then-mark-eq58-clause-rest : goal.returns-then-mark-eq58-clause-rest
returns-then-mark-eq58-clause-rest c = behind_mark c.args.bytes.now c.path_len-len.ensures.exact c.split_at.ensures.back c.in_ok-mark.ensures.cases.0

pub returns-then-mark-eq58-clause-behind : goal.returns-then-mark-eq58-clause-behind
returns-then-mark-eq58-clause-behind c = λ utf8.
    let behind : IsUtf8 c.split_at.result.1.now = rw c.split_at.ensures.back (c.path_len-len.ensures.rest utf8) in
    IsUtf8-others c.in_ok-mark.ensures.cases.0 (omega (arith, c.if-mark-eq58.true)) behind
