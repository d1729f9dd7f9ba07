use Rattle.std.proofs.Common.{◌∙◌, arith, drop}
use Rattle.gr_cmdline.specs.Request.{names_argument}
use Rattle.gr_cmdline.specs.Inside.Reading.{word_of}
use Rattle.gr_cmdline.proofs.Arguing.{arguments-named, arguments-placed, named-none, named-some}
use Rattle.gr_cmdline.proofs.cursor.Cursor.argument_of.Goals as goal

pub returns-in_default : goal.returns-in_default
returns-in_default c =
    let word = word_of c.args.word in
    let unnamed = named-none (names_argument word) (drop 2 word.text) (rw c.in_default.is at c.argument_name.ensures) in
    (arguments-placed word c.into_text.result c.args.self.now unnamed c.into_text.ensures, omega arith)

pub returns-in-Ok-Some : goal.returns-in-Ok-Some
returns-in-Ok-Some c =
    let word = word_of c.args.word in
    let name = named-some (names_argument word) (drop 2 word.text) c.in-Some.name.now (rw c.in-Some.is at c.argument_name.ensures) in
    let read = rw (c.in-Ok-Some.is, c.in-Ok-Some.field-0-is) at c.in_ok-value.ensures in (
      arguments-named word (word_of c.in-Ok-Some.value) c.lent.result c.into_text-in-Ok-Some.result c.args.self.now c.next_word.new.self name.0 (c.lent.ensures ∙ name.1) c.into_text-in-Ok-Some.ensures read.0,
      omega (arith, read.1),
    )
