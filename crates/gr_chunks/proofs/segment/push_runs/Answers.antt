use Rattle.std.proofs.Common.{arith}
use Rattle.gr_chunks.specs.declared.chunk.Run.{Run}
use Rattle.gr_chunks.proofs.CursorLemmas.{sound_run}
use Rattle.gr_chunks.proofs.segment.push_runs.Goals as goal

pub cursor_over-requires-clause-sound : goal.cursor_over-requires-clause-sound
cursor_over-requires-clause-sound g c =
    let none : Run = record { term = record { 0 = 0 }; start = 0; count = 0 } in
    sound_run c.args.least c.args.bytes.now c.args.runs.now c.requires.sound c.loop-run.run-index none (omega arith)
