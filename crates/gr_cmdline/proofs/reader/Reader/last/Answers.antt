use Rattle.std.proofs.Common.{rules}
use Rattle.gr_cmdline.proofs.Streams.{Gives-more}
use Rattle.gr_cmdline.proofs.reader.Reader.last.Goals as goal

pub returns-then-not-has_ended : goal.returns-then-not-has_ended
returns-then-not-has_ended c = Gives-more c.args.self.now c.requires (search rules)
