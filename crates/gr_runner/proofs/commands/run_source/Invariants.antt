-- The bytes given so far are within the limit, and the items that stand whole in them were run.
use Rattle.std.proofs.Common.{◌≡◌, ◌+◌, ◌-◌, length}
use Rattle.gr_runner.proofs.Reading.{IsReading}
use Rattle.gr_runner.proofs.commands.run_source.Given as goal

abbrev pub invariant-loop-reader : goal.invariant-loop-reader
invariant-loop-reader g l = record {
  limits : l.solo.limits ≡ l.fn.limits;
  room : length l.room.items ≡ 65536;
  reading : IsReading l.fn.limits (g.S.Source.told l.fn.source) (g.S.Source.told l.source) l.total l.reader l.fn.session l.session l.fn.solo.journal l.solo.journal l.done.items;
}

abbrev pub decreases-loop-reader : goal.decreases-loop-reader
decreases-loop-reader g l = l.fn.limits.source + 1 - l.total
