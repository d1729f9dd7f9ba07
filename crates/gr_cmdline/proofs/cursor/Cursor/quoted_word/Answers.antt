use Rattle.std.proofs.Common.{arith}
use Rattle.gr_cmdline.proofs.Spelling.{words-quoted}
use Rattle.gr_cmdline.proofs.cursor.Cursor.quoted_word.Goals as goal

pub returns-in-Ok : goal.returns-in-Ok
returns-in-Ok c =
    let read = rw c.in-Ok.is at c.in_ok-text.ensures.text in
    (words-quoted c.args.quote c.args.self.now c.in-Ok.text c.in_quotes.new.self c.requires read, omega (arith, c.in_ok-text.ensures.order))
