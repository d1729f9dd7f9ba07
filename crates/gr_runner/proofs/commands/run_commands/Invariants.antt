-- The items so far were run, and those in the reader are left.
use Rattle.std.proofs.Common.{◌≡◌}
use Rattle.gr_cmdline.specs.Stream.{size}
use Rattle.gr_runner.proofs.RunningCommands.{RunsSoFar}
use Rattle.gr_runner.proofs.commands.run_commands.Given as goal

abbrev pub invariant-commands : goal.invariant-commands
invariant-commands l = record {
  limits : l.solo.limits ≡ l.initial.solo.limits;
  so_far : RunsSoFar l.initial.reader l.reader l.initial.session l.session l.initial.solo.journal l.solo.journal l.initial.done.items l.done.items;
}

abbrev pub decreases-commands : goal.decreases-commands
decreases-commands l = size l.reader
