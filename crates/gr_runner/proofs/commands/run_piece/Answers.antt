-- The piece is fed and its items are run, or no memory was found for it.
use Rattle.gr_runner.proofs.RunningCommands.{runs_fed, runs_piece_starved, runs_unfed}
use Rattle.gr_runner.proofs.commands.run_piece.Goals as goal

pub returns-in_err-feed-clause-runs : goal.returns-in_err-feed-clause-runs
returns-in_err-feed-clause-runs c =
    runs_piece_starved c.args.reader.now c.feed.new.self c.args.piece.now c.args.session.now c.args.session.now c.args.solo.now.journal c.args.solo.now.journal c.args.done.now.items c.args.done.now.items c.from_residual.result c.from_residual.ensures.0
    (runs_unfed c.args.reader.now c.args.piece.now c.args.session.now c.args.solo.now.journal c.args.done.now.items c.requires.ready)

pub returns-clause-runs : goal.returns-clause-runs
returns-clause-runs c =
    runs_fed c.args.reader.now c.feed.new.self c.run_commands.new.reader c.args.piece.now c.args.session.now c.run_commands.new.session c.args.solo.now.journal c.run_commands.new.solo.journal c.args.done.now.items c.run_commands.new.done.items c.run_commands.result c.requires.going c.in_ok-feed.ensures.ok c.run_commands.ensures.runs
