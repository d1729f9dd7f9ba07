use Rattle.std.proofs.Common.{◌≡◌}
use Rattle.gr_cmdline.specs.Stream.{size}
use Rattle.reader_bench.proofs.take_items.Given as goal

abbrev pub invariant-items : goal.invariant-items
invariant-items l = l.reader.ended ≡ l.fn.reader.ended

abbrev pub decreases-items : goal.decreases-items
decreases-items l = size l.reader
