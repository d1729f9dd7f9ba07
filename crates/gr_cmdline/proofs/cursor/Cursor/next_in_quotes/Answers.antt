use Rattle.gr_cmdline.proofs.Spelling.{ReadsInQuotes-escaped}
use Rattle.gr_cmdline.proofs.cursor.Cursor.next_in_quotes.Goals as goal

pub returns-then-c-eq92-clause-next : goal.returns-then-c-eq92-clause-next
returns-then-c-eq92-clause-next c =
    ReadsInQuotes-escaped c.args.quote c.in-Some.c c.args.self.now c.next.new.self c.next_escaped.new.self c.next_escaped.result c.in-Some.ensures c.if-c-quote.false c.if-c-eq92.true (c.next_escaped.ensures.next c.args.quote)
