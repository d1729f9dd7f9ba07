use Rattle.gr_text.specs.Digits.{digits_len}
use Rattle.gr_text.proofs.Ascii.{IsAsciiFront-digits, IsUtf8-behind}
use Rattle.gr_text.proofs.digits.digits_len.Goals as goal

pub returns-clause-rest : goal.returns-clause-rest
returns-clause-rest c =
    λ utf8. rw c.count_digits.ensures.exact (IsUtf8-behind (digits_len c.args.bytes.now) c.args.bytes.now (IsAsciiFront-digits c.args.bytes.now) utf8)
