-- Each item that is run goes to those that were, and where no memory is found the others are left.
use Rattle.std.proofs.Common.{[]}
use Rattle.gr_runner.proofs.RunningCommands.{runs_first, runs_more, runs_piece_starved, runs_until}
use Rattle.gr_runner.proofs.commands.run_commands.Goals as goal

pub returns-in-NoMemory-clause-runs : goal.returns-in-NoMemory-clause-runs
returns-in-NoMemory-clause-runs c =
    runs_first c.args.reader.now c.commands.reader c.args.session.now c.commands.session c.args.solo.now.journal c.commands.solo.journal c.args.done.now.items c.commands.done.items c.commands.invariant.so_far

pub commands-preserved : goal.commands-preserved
commands-preserved c = record {
  limits = cc;
  so_far = runs_more c.args.reader.now c.commands.reader c.next_command.new.self c.args.session.now c.commands.session c.run_command.new.session c.args.solo.now.journal c.commands.solo.journal c.run_command.new.solo.journal c.in-Item.item c.args.done.now.items c.commands.done.items c.run_command.new.done.items c.commands.invariant.so_far
      c.in-Item.ensures
      c.in_ok-run_command-in-Item.ensures.runs;
}

pub returns-in_err-run_command-in-Item-clause-runs : goal.returns-in_err-run_command-in-Item-clause-runs
returns-in_err-run_command-in-Item-clause-runs c =
    runs_piece_starved c.args.reader.now c.next_command.new.self [] c.args.session.now c.run_command.new.session c.args.solo.now.journal c.run_command.new.solo.journal c.args.done.now.items c.run_command.new.done.items c.from_residual.result c.from_residual.ensures.0
    (runs_until c.args.reader.now c.commands.reader c.next_command.new.self c.args.session.now c.commands.session c.args.solo.now.journal c.commands.solo.journal c.run_command.new.solo.journal c.in-Item.item c.args.done.now.items c.commands.done.items c.run_command.new.done.items c.commands.invariant.so_far
    c.in-Item.ensures
    c.in_err-run_command-in-Item.ensures.runs)
