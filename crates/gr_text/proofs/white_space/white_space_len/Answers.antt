use Rattle.gr_text.specs.Characters.{white_space_len}
use Rattle.gr_text.proofs.Ascii.{IsAsciiFront-blanks, IsUtf8-behind}
use Rattle.gr_text.proofs.white_space.white_space_len.Goals as goal

pub returns-clause-rest : goal.returns-clause-rest
returns-clause-rest c =
    λ utf8. rw c.count_white_space.ensures.exact (IsUtf8-behind (white_space_len c.args.bytes.now) c.args.bytes.now (IsAsciiFront-blanks c.args.bytes.now) utf8)
