use Rattle.std.proofs.Common.{◌≡◌, ◌+◌, drop, length, map}
use Rattle.gr_runner.specs.History.{sources_of}
use Rattle.gr_runner.proofs.serial.room_for_logs.Given as goal

abbrev pub invariant-loop-phase : goal.invariant-loop-phase
invariant-loop-phase g l =
    l.sources + length (sources_of (map (λ sources. sources.items) (drop l.phase-index l.phases))) ≡ length (sources_of (map (λ sources. sources.items) l.phases))
