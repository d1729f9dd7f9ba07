use Rattle.std.proofs.Common.{rules}
use Rattle.gr_cmdline.proofs.Spelling.{behind_quotes-blank}
use Rattle.gr_cmdline.proofs.cursor.Cursor.behind_quotes.Goals as goal

pub returns-then-is_blank-clause-text : goal.returns-then-is_blank-clause-text
returns-then-is_blank-clause-text c = behind_quotes-blank c.args.text c.args.self.now c.next.new.self c.in-Some.c c.in-Some.ensures (search rules)
