-- A space among the others, or none.
use Rattle.std.proofs.Common.{arith}
use Rattle.std.proofs.lemmas.List.{take_rest}
use Rattle.memchr.specs.Find.{Nowhere, Passes, is_byte}
use Rattle.gr_tokens.proofs.FurtherBytes.{none-further, first-further}
use Rattle.gr_tokens.proofs.delimit.first_space.Goals as goal

pub returns-in_err-further : goal.returns-in_err-further
returns-in_err-further c =
    let before : Nowhere (Passes (is_byte 32) c.args.text.now) 0 c.min-near.result = λ k low high. c.loop-at.invariant k low (omega arith) in
    let none = rw (take_rest c.args.text.now c.min-near.result) at c.in_err-further.ensures in
    rw c.from_residual.ensures (none-further (is_byte 32) c.args.text.now c.min-near.result before none)

pub returns : goal.returns
returns c =
    let before : Nowhere (Passes (is_byte 32) c.args.text.now) 0 c.min-near.result = λ k low high. c.loop-at.invariant k low (omega arith) in
    let found = rw (take_rest c.args.text.now c.min-near.result) at c.in_ok-further.ensures in
    first-further (is_byte 32) c.args.text.now c.min-near.result before c.in_ok-further.further found
