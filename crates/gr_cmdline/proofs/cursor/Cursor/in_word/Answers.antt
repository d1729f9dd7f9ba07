use Rattle.gr_cmdline.proofs.Runs.{word-run}
use Rattle.gr_cmdline.proofs.cursor.Cursor.in_word.Goals as goal

pub returns-clause-text : goal.returns-clause-text
returns-clause-text c =
    let run = c.up_to-text in
    word-run run.result.now c.args.self.now run.new.self c.next-blank.new.self c.next-blank.result run.utf8 run.ensures.read run.ensures.run run.ensures.stop c.next-blank.ensures
