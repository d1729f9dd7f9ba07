use Rattle.gr_cmdline.specs.Stream.{size}
use Rattle.gr_cmdline.proofs.Streams.{Along}
use Rattle.gr_cmdline.proofs.reader.Reader.next_command.Given as goal

abbrev pub invariant-lines : goal.invariant-lines
invariant-lines l = Along l.fn.self l.self

abbrev pub decreases-lines : goal.decreases-lines
decreases-lines l = size l.self
