use Rattle.std.proofs.Common.{◌∙◌, ap, arith, length, sym}
use Rattle.gr_cmdline.proofs.Spelling.{words-unquoted}
use Rattle.gr_cmdline.proofs.cursor.Cursor.next_word.Goals as goal

pub returns : goal.returns
returns c =
    let first = c.in-Some.ensures.first in
    let word = c.in_word-text in (
      first.1 ∙ words-unquoted c.first_of_word.new.self word.result.now word.new.self c.in-Some.first first.2 first.0 (sym c.is_quote.ensures ∙ c.if-is_quote.false) word.ensures.text,
      omega (arith, word.ensures.order, c.in-Some.ensures.order, ap (λ line. length line) first.2.1),
    )
