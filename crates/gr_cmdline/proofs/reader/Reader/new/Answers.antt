use Rattle.std.proofs.Common.{None}
use Rattle.gr_cmdline.proofs.Lines.{items_behind-prefix}
use Rattle.gr_cmdline.proofs.reader.Reader.new.Goals as goal

pub returns-clause-first : goal.returns-clause-first
returns-clause-first c bytes more ended = items_behind-prefix c.args.limits.line None bytes more ended
