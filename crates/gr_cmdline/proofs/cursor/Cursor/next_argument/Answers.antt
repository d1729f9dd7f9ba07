use Rattle.gr_cmdline.specs.Inside.Reading.{arguments_behind, arguments_in, word_of}
use Rattle.gr_cmdline.proofs.Arguing.{IfOk-word, arguments_in-word}
use Rattle.gr_cmdline.proofs.cursor.Cursor.next_argument.Goals as goal

pub returns-in-Ok-Some : goal.returns-in-Ok-Some
returns-in-Ok-Some c =
    let word = rw (c.in-Ok-Some.is, c.in-Ok-Some.field-0-is) at c.in_ok-word.ensures in
    IfOk-word c.argument_of.result (arguments_in c.args.self.now) (arguments_behind (word_of c.in-Ok-Some.word) c.next_word.new.self) c.args.self.now c.next_word.new.self c.argument_of.new.self
    (arguments_in-word (word_of c.in-Ok-Some.word) c.args.self.now c.next_word.new.self word.0) word.1 c.argument_of.ensures
