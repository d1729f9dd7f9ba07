use Rattle.std.proofs.Common.{IsUtf8, ◌∙◌, ap, subst, sym}
use Rattle.std.specs.Str.{chars}
use Rattle.memchr.specs.Find.{is_byte2}
use Rattle.gr_cmdline.specs.Inside.Reading.{EndsRun}
use Rattle.gr_cmdline.proofs.Runs.{ascii-two, run-clear, run-split, run-stop}
use Rattle.gr_cmdline.proofs.cursor.Cursor.up_to.Goals as goal

pub returns : goal.returns
returns c =
    let test = is_byte2 c.args.one c.args.other in
    let bytes = c.self.inside.rest.now in
    let len = c.len_before_two-len.result in
    let ascii = ascii-two c.args.one c.args.other c.requires.ascii.0 c.requires.ascii.1 in
    let utf8 = subst IsUtf8 c.as_bytes.ensures.value c.as_bytes.ensures.utf8 in
    let run = subst (λ bytes. EndsRun test bytes len) c.as_bytes.ensures.value c.len_before_two-len.ensures in
    record {
      read = rw (c.split_at.ensures.front, c.split_at.ensures.back) (sym c.self.view_is ∙ run-split test bytes len ascii utf8 run);
      run = rw c.split_at.ensures.front (run-clear test bytes len ascii utf8 run);
      stop = λ d cs first. run-stop test bytes len d cs ascii utf8 run (ap chars (sym c.split_at.ensures.back) ∙ first);
    }
