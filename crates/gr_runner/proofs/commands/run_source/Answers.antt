-- How each read goes on, and how the reading ends.
use Rattle.std.proofs.Common.{arith, drop, length, refl, rules, sym, take, ◌∙◌}
use Rattle.std.proofs.lemmas.List.{take_at}
use Rattle.gr_runner.proofs.RunningCommands.{runs_some, runs_whole}
use Rattle.gr_runner.proofs.Reading.{ends_failed, ends_finished, ends_starved_last, ends_unread, piece_read, piece_starved, piece_too_long, reading_none}
use Rattle.gr_runner.proofs.commands.run_source.Goals as goal
use Rattle.gr_runner.proofs.commands.run_source.Goals.{in-Ok-run_commands, in-Err-run_commands}

pub returns-in_default-clause-runs : goal.returns-in_default-clause-runs
returns-in_default-clause-runs g c =
    ends_unread c.args.limits (g.S.Source.told c.args.source) c.args.session.now c.args.solo.now.journal c.args.done.now.items c.requires.none (record { opened = c.requires.opened; first = c.requires.first })

pub loop-reader-init : goal.loop-reader-init
loop-reader-init g c = record {
  limits = sym c.requires.limits;
  room = c.in-Ok.ensures;
  reading = reading_none c.args.limits (g.S.Source.told c.args.source) c.new-reader.result c.args.session.now c.args.solo.now.journal c.args.done.now.items c.new-reader.ensures.made c.requires.none (record { opened = c.requires.opened; first = c.requires.first });
}

pub returns-in-Ok-eq0-clause-runs : goal.returns-in-Ok-eq0-clause-runs
returns-in-Ok-eq0-clause-runs g c =
    elim c.match-run_commands.branch [
      | in-Ok-run_commands w ↦ rw w.result-is (ends_finished c.args.limits (g.S.Source.told c.args.source) (g.S.Source.told c.loop-reader.source) c.loop-reader.total c.loop-reader.reader c.args.session.now c.loop-reader.session c.args.solo.now.journal c.loop-reader.solo.journal c.loop-reader.done.items (record { opened = c.requires.opened; first = c.requires.first }) c.loop-reader.invariant.reading
          (g.S.Source.told c.read.new.self).left c.end.new.self c.run_commands.new.reader c.run_commands.new.session c.run_commands.new.solo.journal c.run_commands.new.done.items c.end.ensures (rw c.in-Ok-eq0.field-0-test at c.in-Ok-eq0.ensures.bytes.0) (c.in-Ok-eq0.ensures.bytes.1 c.in-Ok-eq0.field-0-test (omega arith)) w.in-Ok-run_commands.ensures.runs)
      | in-Err-run_commands w ↦ rw w.result-is (ends_starved_last c.args.limits (g.S.Source.told c.args.source) (g.S.Source.told c.loop-reader.source) c.loop-reader.total c.loop-reader.reader c.args.session.now c.loop-reader.session c.args.solo.now.journal c.loop-reader.solo.journal c.loop-reader.done.items (record { opened = c.requires.opened; first = c.requires.first }) c.loop-reader.invariant.reading
          (g.S.Source.told c.read.new.self).left c.end.new.self c.run_commands.new.reader c.run_commands.new.session c.run_commands.new.solo.journal c.run_commands.new.done.items c.end.ensures (rw c.in-Ok-eq0.field-0-test at c.in-Ok-eq0.ensures.bytes.0) (c.in-Ok-eq0.ensures.bytes.1 c.in-Ok-eq0.field-0-test (omega arith)) w.in-Err-run_commands.ensures.runs)
    ]

pub returns-then-is_err-clause-runs : goal.returns-then-is_err-clause-runs
returns-then-is_err-clause-runs g c =
    piece_starved c.args.limits (g.S.Source.told c.args.source) (g.S.Source.told c.loop-reader.source) c.loop-reader.total c.loop-reader.reader c.args.session.now c.loop-reader.session c.args.solo.now.journal c.loop-reader.solo.journal c.loop-reader.done.items (record { opened = c.requires.opened; first = c.requires.first }) c.loop-reader.invariant.reading
    (g.S.Source.told c.read.new.self).left c.run_piece.new.reader c.run_piece.new.session c.run_piece.new.solo.journal c.run_piece.new.done.items c.in-Ok-read.given c.within-kept.result c.read.new.room c.deref.result.now
    (c.deref.ensures.value ∙ take_at c.read.new.room (drop (length c.read.new.room) c.loop-reader.room.items) c.loop-reader.room.len (omega arith)) c.in-Ok-read.ensures.bound.0 c.within-kept.ensures c.in-Ok-read.ensures.bytes.0
    (runs_some c.loop-reader.reader c.run_piece.new.reader (take c.within-kept.result c.deref.result.now) c.loop-reader.session c.run_piece.new.session c.loop-reader.solo.journal c.run_piece.new.solo.journal c.loop-reader.done.items c.run_piece.new.done.items c.run_piece.result (sym c.is_err.ensures.value ∙ c.if-is_err.true) c.run_piece.ensures.runs)

pub returns-then-total-limits-clause-runs : goal.returns-then-total-limits-clause-runs
returns-then-total-limits-clause-runs g c =
    piece_too_long c.args.limits (g.S.Source.told c.args.source) (g.S.Source.told c.loop-reader.source) c.loop-reader.total c.loop-reader.reader c.args.session.now c.loop-reader.session c.args.solo.now.journal c.loop-reader.solo.journal c.loop-reader.done.items (record { opened = c.requires.opened; first = c.requires.first }) c.loop-reader.invariant.reading
    (g.S.Source.told c.read.new.self).left c.run_piece.new.reader c.run_piece.new.session c.run_piece.new.solo.journal c.run_piece.new.done.items c.in-Ok-read.given c.within-kept.result c.read.new.room c.deref.result.now
    (c.deref.ensures.value ∙ take_at c.read.new.room (drop (length c.read.new.room) c.loop-reader.room.items) c.loop-reader.room.len (omega arith)) c.in-Ok-read.ensures.bound.0 c.within-kept.ensures c.in-Ok-read.ensures.bytes.0 c.if-total-limits.true
    (runs_whole c.loop-reader.reader c.run_piece.new.reader (take c.within-kept.result c.deref.result.now) c.loop-reader.session c.run_piece.new.session c.loop-reader.solo.journal c.run_piece.new.solo.journal c.loop-reader.done.items c.run_piece.new.done.items c.run_piece.result (sym c.is_err.ensures.value ∙ c.if-is_err.false) c.run_piece.ensures.runs)

pub loop-reader-preserved : goal.loop-reader-preserved
loop-reader-preserved g c = record {
  limits = cc;
  room = search rules;
  reading = piece_read c.args.limits (g.S.Source.told c.args.source) (g.S.Source.told c.loop-reader.source) c.loop-reader.total c.loop-reader.reader c.args.session.now c.loop-reader.session c.args.solo.now.journal c.loop-reader.solo.journal c.loop-reader.done.items (record { opened = c.requires.opened; first = c.requires.first }) c.loop-reader.invariant.reading
      (g.S.Source.told c.read.new.self).left c.run_piece.new.reader c.run_piece.new.session c.run_piece.new.solo.journal c.run_piece.new.done.items c.in-Ok-read.given c.within-kept.result c.read.new.room c.deref.result.now
      (c.deref.ensures.value ∙ take_at c.read.new.room (drop (length c.read.new.room) c.loop-reader.room.items) c.loop-reader.room.len (omega arith)) c.in-Ok-read.ensures.bound.0 c.within-kept.ensures c.in-Ok-read.ensures.bytes.0 (g.S.Source.told c.read.new.self) refl c.if-total-limits.false c.in-Ok-read.ensures.faults c.in-Ok-read.ensures.pairs
      (runs_whole c.loop-reader.reader c.run_piece.new.reader (take c.within-kept.result c.deref.result.now) c.loop-reader.session c.run_piece.new.session c.loop-reader.solo.journal c.run_piece.new.solo.journal c.loop-reader.done.items c.run_piece.new.done.items c.run_piece.result (sym c.is_err.ensures.value ∙ c.if-is_err.false) c.run_piece.ensures.runs);
}

pub returns-in-Err-clause-runs : goal.returns-in-Err-clause-runs
returns-in-Err-clause-runs g c =
    ends_failed c.args.limits (g.S.Source.told c.args.source) (g.S.Source.told c.loop-reader.source) c.loop-reader.total c.loop-reader.reader c.args.session.now c.loop-reader.session c.args.solo.now.journal c.loop-reader.solo.journal c.loop-reader.done.items (record { opened = c.requires.opened; first = c.requires.first }) c.loop-reader.invariant.reading
    c.in-Err.field-0.faults (omega (arith, c.in-Err.ensures.faults.0, c.in-Err.ensures.faults.1))
    (c.in-Err.ensures.pairs 0 c.in-Err.field-0.faults (rw c.in-Err.ensures.faults.1 (g.met.S.Source.reaches_now c.read.new.self)))
