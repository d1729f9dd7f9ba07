use Rattle.std.proofs.Common.{inr}
use Rattle.gr_outside.specs.Outside.{as_opened}
use Rattle.gr_runner.proofs.Opened.{Run-opened}
use Rattle.gr_runner.proofs.program.run_words.Goals as goal

pub returns-in-Ok-clause-run : goal.returns-in-Ok-clause-run
returns-in-Ok-clause-run g c =
    let named = c.in-Some.ensures in
    let files = g.F.Files.told c.args.files.now in
    rw named (inr (record {
      opened = c.in-Ok.ensures.faults;
      run = Run-opened _ g.F.File.Source.told (λ name. as_opened (files.named name)) c.in-Ok.file c.in-Some.name.now c.in-Ok.ensures.opened _ _ _ c.run_file.ensures;
    }))
