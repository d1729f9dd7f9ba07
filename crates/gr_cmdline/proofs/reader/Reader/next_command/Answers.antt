use Rattle.std.proofs.Common.{◌∙◌, ap}
use Rattle.gr_cmdline.specs.Inside.Buffered.{first_outcome}
use Rattle.gr_cmdline.proofs.Streams.{Along-pass, GivesItem-pass}
use Rattle.gr_cmdline.proofs.reader.Reader.next_command.Goals as goal

pub lines-preserved : goal.lines-preserved
lines-preserved c =
    let known = rw c.in-Ok-None.field-0-is at c.in-Ok-None.ensures in
    let line = c.in-Some.line in
    let item = known.item ∙ ap (λ stream. (first_outcome stream line.len line.past).item) c.first_line.ensures.kept in
    rw (known.ok, c.first_line.ensures.kept) (Along-pass c.args.self.now c.lines.self line.len line.past c.lines.invariant c.in-Some.ensures.whole item)

pub returns-in-Ok-Some : goal.returns-in-Ok-Some
returns-in-Ok-Some c =
    let known = rw c.in-Ok-Some.field-0-is at c.in-Ok-Some.ensures in
    let line = c.in-Some.line in
    let item = known.item ∙ ap (λ stream. (first_outcome stream line.len line.past).item) c.first_line.ensures.kept in
    rw (known.ok, c.first_line.ensures.kept) (GivesItem-pass c.args.self.now c.lines.self line.len line.past c.in-Ok-Some.item c.lines.invariant c.in-Some.ensures.whole item known.is_item)
