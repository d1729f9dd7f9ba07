use Rattle.std.proofs.Common.{◌≡◌, ◌∷◌, ◌∙◌, ap, option_map, sym}
use Rattle.std.specs.Str.{chars}
use Rattle.gr_cmdline.specs.Inside.Reading.{arguments_in, word_of}
use Rattle.gr_cmdline.specs.Line.{command_asked}
use Rattle.gr_cmdline.specs.Request.{request_in_words, request_with}
use Rattle.gr_cmdline.specs.Words.{words}
use Rattle.gr_cmdline.proofs.Arguing.{IfOk-told, request_of_words-first}
use Rattle.gr_cmdline.proofs.request.command_in_words.Goals as goal

pub returns-in-Ok-Some : goal.returns-in-Ok-Some
returns-in-Ok-Some c =
    let word = rw (c.in-Ok-Some.is, c.in-Ok-Some.field-0-is) at c.in_ok-word.ensures in
    let read : words (chars c.args.line.now) ≡ option_map (λ others. word_of c.in-Ok-Some.word ∷ others) (words c.next_word.new.self) = ap words (sym c.new-cursor.ensures) ∙ word.0 in
    IfOk-told c.command_named.result (command_asked (request_with (word_of c.in-Ok-Some.word).text (arguments_in c.next_word.new.self))) (command_asked (request_in_words c.args.line.now))
    (ap command_asked (sym (request_of_words-first (word_of c.in-Ok-Some.word) (chars c.args.line.now) c.next_word.new.self read))) (rw c.into_text.ensures at c.command_named.ensures)
